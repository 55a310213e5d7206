-- The suspensions that are held: for the stop in hand, as the entry, and for the composite in hand.
use Rattle.std.proofs.Common.{◌≡◌, ℕ, Bool, true, false, cond, not, List, [], ◌∷◌, ◌++◌, Option, Some, None, refl, sym}
use Rattle.std.proofs.Common.{ap, subst, ◌∙◌, option_map, arith}
use Rattle.std.specs.Prelude.{nat_lt, ◌-◌, ◌+◌}
use Rattle.jdwp_events.specs.declared.kind.Policy.{Policy}
use Rattle.machine_model.specs.Composites.{composite_parts}
use Rattle.machine_model.specs.Due.{after_deed, asked_hand, entry_by, sent, stopped_by}
use Rattle.machine_model.specs.Knowing.{View, begins, dies, dying_by, held_in, held_with, has_last, may_send, owed_by}
use Rattle.machine_model.specs.Knowing.{owed_in, sent_view, stopped_behind, view_of}
use Rattle.machine_model.specs.Lookups.{finished}
use Rattle.machine_model.specs.Plans.{Result}
use Rattle.machine_model.specs.Replying.{given_up, hand_replied}
use Rattle.machine_model.specs.Requests.{Wishes, effect_due, effect_of}
use Rattle.machine_model.specs.Rows.{written_by, chosen, end_parts, gone_parts, has_response, leaves, news_of}
use Rattle.machine_model.specs.Rows.{request_parts, refused_with, stepped_by}
use Rattle.machine_model.specs.State.{Hand, Machine, State, is_attached, is_empty, is_gone, knowing}
use Rattle.machine_model.specs.Stops.{decided, decided_by, events_in, has_start, hits_in, judged, logged_first}
use Rattle.machine_model.specs.Stops.{stop_among, surplus, thrown_in, told_part}
use Rattle.machine_steps.specs.Names.{Written, variable_write, Attached, Choice, Clear, Command, Decides, Deed, Does}
use Rattle.machine_steps.specs.Names.{Effect, EntryHeld, Finding, Item, Leaves, Lookup, Part, Phase, Replied, Resume}
use Rattle.machine_steps.specs.Names.{Set, StopCause, Stopping, Suspend, TargetCommand, TellsNews, Want, a_stop}
use Rattle.machine_steps.specs.Names.{an_effect, by_client, of_composite, of_entry, of_stop, Halt, Stepped, ThreadId}
use Rattle.machine_steps.specs.Names.{Thrown, HaltCause, exception_text, Hit, by_step, by_exception, Judges, Logged}
use Rattle.machine_steps.specs.Names.{Strike}
use Rattle.suspend_ledger.specs.Suspensions.{suspensions_by}
use Rattle.wish_sets.specs.Wishes.{WishChange, clears, next_change, sets}
use Rattle.machine_model.proofs.Bools.{first_holds}
use Rattle.machine_steps.proofs.HoldingParts.{IsHolding, decides_next, may_all, may_do_so, may_front, may_stop}
use Rattle.machine_steps.proofs.Stepping.{IsAt, Skips}
use Rattle.machine_steps.proofs.Tables.{free_once, told_alike}
use Rattle.machine_steps.proofs.Testing.{passed}

pub held_front : {m : Machine} {hand : Hand} {part : Part} {rest : List Part} → IsAt m hand part rest
    → held_in m.state m.hand ≡ held_with m.state.stopped m.state.entry (owed_in m.state.stopped (part ∷ rest))
held_front {m} at = ap (λ (owed : ℕ). held_with m.state.stopped m.state.entry owed)
    (ap (owed_by m.state.stopped) at.in_hand ∙ ap (owed_in m.state.stopped) at.parts)

pub dies_front : {m : Machine} {hand : Hand} {part : Part} {rest : List Part} → IsAt m hand part rest
    → dies m.hand ≡ has_last (part ∷ rest)
dies_front at = ap dies at.in_hand ∙ ap has_last at.parts

-- what is known is the same but for what the item in hand holds, and is to tell
pub held_as : (m next : Machine) {view : View} → held_in next.state next.hand ≡ held_in m.state m.hand
    → dies next.hand ≡ dies m.hand
    → record (view_of next) {
      held = held_in m.state m.hand;
      dying = cond (is_gone next.state.phase) false (dies m.hand);
    } ≡ view
    → view_of next ≡ view
held_as m next held last is =
    ap (λ (held : ℕ). record (view_of next) { held = held }) held
    ∙ ap (λ (dying : Bool). record (view_of next) {
      held = held_in m.state m.hand;
      dying = cond (is_gone next.state.phase) false dying;
    }) last
    ∙ is

-- The tables ----------------------------------------------------------------------------------------------------------

pub row_owes : (state : State) (command : Command)
    → owed_in state.stopped (request_parts command state) ≡ 0
row_owes state command = grind arith

pub row_last : (state : State) (command : Command) → has_last (request_parts command state) ≡ false
row_last state command = grind arith

pub end_owes : (stopped told : Bool) → owed_in stopped (end_parts told) ≡ 0
end_owes stopped told = grind arith

-- an item that tells of the target's end holds nothing; else a composite holds what it suspended
pub composite_owes : (stopped dead : Bool) (policy : Policy) (at below : ℕ)
    → owed_in stopped (composite_parts Attached dead policy at below)
    ≡ cond dead 0 (0 + suspensions_by policy)
composite_owes stopped dead policy at below = grind arith

pub composite_last : (dead : Bool) (policy : Policy) (at below : ℕ)
    → has_last (composite_parts Attached dead policy at below) ≡ dying_by policy dead
composite_last dead policy at below = grind arith

gone_owes : (stopped responds : Bool) (item : Item) → owed_in stopped (gone_parts responds item) ≡ 0
gone_owes stopped responds item = grind arith

pub given_owes : (hand : Option Hand) → owed_by false (option_map given_up hand) ≡ 0
given_owes None = refl
given_owes (Some hand) = gone_owes false (has_response hand.parts) hand.item

pub found_owes : (stopped : Bool) (lookup : Lookup) (result : Result Finding) (state : State) (rest : List Part)
    → owed_in stopped (finished lookup result state ++ rest) ≡ owed_in stopped (Part.Looks lookup ∷ rest)
found_owes stopped (variable_write thing name text) result state rest = grind arith
found_owes stopped (exception_text thread object) result state rest = by_stop stopped
  where
    by_stop : (stopped : Bool) → owed_in stopped (finished (exception_text thread object) result state ++ rest)
        ≡ owed_in stopped (Part.Looks (exception_text thread object) ∷ rest)
    by_stop stopped = grind arith
found_owes stopped _ result state rest = refl

-- what is decided on a composite's suspension is one of three: a stop holds it, the entry does, or it is undone
decided_owes : (state : State) (logged : List (List ℕ)) (stops : List Strike) (item : Item)
    → is_attached state.phase ≡ true → owed_in state.stopped (decided state logged stops item ++ []) ≡ 1
decided_owes state logged stops item attached = rw attached (by_logged logged)
  where
    by_halt : (stopped : Bool) (cause : HaltCause) (thread : ThreadId)
        → owed_in stopped (told_part stops cause thread ∷ surplus stopped) ≡ 1
    by_halt stopped cause thread = grind arith

    by_stop : (stopped configured entry starts : Bool) (thrown : List Thrown) (stop : Option Halt)
        → owed_in stopped (decided_by stopped (cond configured false (cond entry false starts)) thrown stops stop ++ []) ≡ 1
    by_stop stopped true entry starts thrown None = refl
    by_stop stopped false true starts thrown None = refl
    by_stop stopped false false true thrown None = refl
    by_stop stopped false false false thrown None = refl
    by_stop true configured entry starts thrown (Some halt) = by_halt true halt.cause halt.thread
    by_stop false configured entry starts thrown (Some halt) = by_halt false halt.cause halt.thread

    by_logged : (logged : List (List ℕ))
        → owed_in state.stopped (logged_first state logged stops (events_in item) ++ []) ≡ 1
    by_logged [] = by_stop state.stopped state.configured state.entry (has_start (events_in item))
        (thrown_in state.wishes (events_in item)) (stop_among stops (hits_in state.wishes (events_in item)))
    by_logged (text ∷ texts) = refl

pub chosen_owes : {m : Machine} {hand : Hand} {choice : Choice} {rest : List Part} → IsHolding m
    → IsAt m hand (Part.Unfolds choice) rest
    → owed_in m.state.stopped (chosen choice m.state hand ++ rest)
    ≡ owed_in m.state.stopped (Part.Unfolds choice ∷ rest)
chosen_owes {m} {hand} {choice = TellsNews below} {rest} h at =
    told_alike (owed_in m.state.stopped) (λ news parts. refl) m.state.phase (news_of below m.state hand.item) rest
chosen_owes {m} {hand} {choice = Leaves exits} {rest} h at = by_phase m.state.phase exits
  where
    by_phase : (phase : Phase) (exits : Bool)
        → owed_in m.state.stopped (leaves phase exits ++ rest) ≡ owed_in m.state.stopped rest
    by_phase phase exits = grind arith
chosen_owes {m} {hand} {choice = Written seen} {rest} h at = by_code (refused_with hand.effect)
  where
    by_code : (code : Option ℕ) → owed_in m.state.stopped (written_by seen code ++ rest) ≡ owed_in m.state.stopped rest
    by_code code = grind arith
chosen_owes {m} {hand} {choice = Stepped} {rest} h at =
    by_rest rest m.state.stopped (refused_with hand.effect) (may_front h at)
  where
    by_rest : (rest : List Part) (stopped : Bool) (code : Option ℕ)
        → may_all m.state.phase stopped m.state.entry (Part.Unfolds Stepped ∷ rest) ≡ true
        → owed_in stopped (stepped_by code ++ rest) ≡ owed_in stopped rest
    by_rest rest stopped code is = grind (arith, is)
chosen_owes {m} {hand} {choice = Judges} {rest} h at = by_rest rest (is_attached m.state.phase) refl (may_front h at)
  where
    by_rest : (rest : List Part) (attached : Bool) → is_attached m.state.phase ≡ attached
        → cond (cond attached (is_empty rest) false) (may_all m.state.phase m.state.stopped m.state.entry rest) false
        ≡ true
        → owed_in m.state.stopped (judged m.state hand.item ++ rest) ≡ owed_in m.state.stopped rest + 1
    by_rest [] true is may = rw is refl
    by_rest [] false is may = cc
    by_rest (part ∷ rest) true is may = cc
    by_rest (part ∷ rest) false is may = cc
chosen_owes {m} {hand} {choice = Decides logged stops} {rest} h at =
    by_rest rest (is_attached m.state.phase) refl (may_front h at)
  where
    by_rest : (rest : List Part) (attached : Bool) → is_attached m.state.phase ≡ attached
        → cond (cond attached (is_empty rest) false) (may_all m.state.phase m.state.stopped m.state.entry rest) false
        ≡ true
        → owed_in m.state.stopped (decided m.state logged stops hand.item ++ rest) ≡ owed_in m.state.stopped rest + 1
    by_rest [] true is may = decided_owes m.state logged stops hand.item is
    by_rest [] false is may = cc
    by_rest (part ∷ rest) true is may = cc
    by_rest (part ∷ rest) false is may = cc

pub skipped_owes : {m : Machine} {hand : Hand} {part : Part} (stopped : Bool) (rest : List Part) → Skips m hand part
    → owed_in stopped rest ≡ owed_in stopped (part ∷ rest)
skipped_owes stopped rest why = grind (arith, why)

pub skipped_last : {m : Machine} {hand : Hand} {part : Part} (rest : List Part) → Skips m hand part
    → has_last rest ≡ has_last (part ∷ rest)
skipped_last rest why = grind (arith, why)

pub replied_owes : (stopped : Bool) (command : TargetCommand) (replied : Replied) (hand : Option Hand)
    → owed_by stopped (option_map (hand_replied command replied) hand) ≡ owed_by stopped hand
replied_owes stopped command replied hand = grind arith

pub replied_last : (command : TargetCommand) (replied : Replied) (hand : Option Hand)
    → dies (option_map (hand_replied command replied) hand) ≡ dies hand
replied_last command replied hand = grind arith

pub asked_owes : (stopped : Bool) (want : Want) (hand : Option Hand)
    → owed_by stopped (option_map (asked_hand want) hand) ≡ owed_by stopped hand
asked_owes stopped want hand = grind arith

pub asked_last : (want : Want) (hand : Option Hand) → dies (option_map (asked_hand want) hand) ≡ dies hand
asked_last want hand = grind arith

-- an effect of event requests undoes no suspension
pub due_sends : (w : Wishes) (effect : Effect) (view : View) → effect_due w ≡ Some effect
    → (may_send (an_effect effect) view ≡ true) × (sent_view (an_effect effect) view ≡ view)
due_sends w effect view due = by_change (next_change w) due
  where
    by_change : (change : Option WishChange) → option_map effect_of change ≡ Some effect
        → (may_send (an_effect effect) view ≡ true) × (sent_view (an_effect effect) view ≡ view)
    by_change None is = cc
    by_change (Some (sets wish)) is = let same : Set wish ≡ effect = cc in
        subst (λ (effect : Effect). (may_send (an_effect effect) view ≡ true)
        × (sent_view (an_effect effect) view ≡ view)) same (refl, refl)
    by_change (Some (clears one)) is = let same : Clear one.wish one.request ≡ effect = cc in
        subst (λ (effect : Effect). (may_send (an_effect effect) view ≡ true)
        × (sent_view (an_effect effect) view ≡ view)) same (refl, refl)

-- Deeds ---------------------------------------------------------------------------------------------------------------

first_may : {m : Machine} {hand : Hand} {deed : Deed} {rest : List Part} → IsHolding m
    → IsAt m hand (Part.Sends deed) rest → may_do_so deed m.state.stopped m.state.entry ≡ true
first_may {m} {deed = deed} h at = first_holds (may_do_so deed m.state.stopped m.state.entry) _ (may_front h at)

suspends : (stopped entry : Bool) (owed held : ℕ) → not stopped ≡ true → held ≡ held_with stopped entry owed
    → held_with true entry owed ≡ held + 1
suspends true entry owed held may is = cc
suspends false entry owed held may is = omega (arith, is)

undoes_own : (stopped entry : Bool) (owed held : ℕ) → held ≡ held_with stopped entry (owed + 1)
    → (held_with stopped entry owed ≡ held - 1) × (nat_lt 0 held ≡ true)
undoes_own stopped entry owed held is = (omega (arith, is), grind (arith, is))

undoes_entry : (stopped entry : Bool) (owed held : ℕ) → entry ≡ true → held ≡ held_with stopped entry owed
    → (held_with stopped false owed ≡ held - 1) × (nat_lt 0 held ≡ true)
undoes_entry stopped true owed held may is = (omega (arith, is), grind (arith, is))
undoes_entry stopped false owed held may is = cc

undoes_stop : (stopped entry : Bool) (owed held : ℕ) → stopped ≡ true → held ≡ held_with stopped entry owed
    → (held_with false entry owed ≡ held - 1) × (nat_lt 0 held ≡ true)
undoes_stop true entry owed held may is = (omega (arith, is), grind (arith, is))
undoes_stop false entry owed held may is = cc

-- what a deed makes of the suspensions that are held
now_held : (m : Machine) (hand : Hand) (deed : Deed) (rest : List Part) (held : ℕ) → IsAt m hand (Part.Sends deed) rest
    → held_with (stopped_by deed m.state.stopped) (entry_by deed m.state.entry)
    (owed_in (stopped_by deed m.state.stopped) rest) ≡ held
    → view_of (sent (knowing m (after_deed deed m.state)) hand rest (Does deed))
    ≡ record (view_of m) { held = held; stopped = stopped_by deed m.state.stopped }
now_held m hand deed rest held at is =
    ap (λ (held : ℕ). record (view_of m) {
      held = held;
      stopped = stopped_by deed m.state.stopped;
      dying = cond (is_gone m.state.phase) false (has_last rest);
    }) is
    ∙ ap (λ (dying : Bool). record (view_of m) {
      held = held;
      stopped = stopped_by deed m.state.stopped;
      dying = cond (is_gone m.state.phase) false dying;
    }) (sym (dies_front at))

-- a deed is sent
pub deed_view_is : (m : Machine) (hand : Hand) (deed : Deed) (rest : List Part) → IsHolding m
    → IsAt m hand (Part.Sends deed) rest
    → view_of (sent (knowing m (after_deed deed m.state)) hand rest (Does deed))
    ≡ sent_view (an_effect (Does deed)) (view_of m)
deed_view_is m hand Suspend rest h at = now_held m hand Suspend rest _ at
    (suspends m.state.stopped m.state.entry (owed_in true rest) _ (first_may h at) (held_front at))
deed_view_is m hand (Resume of_composite) rest h at = now_held m hand (Resume of_composite) rest _ at
    (undoes_own m.state.stopped m.state.entry (owed_in m.state.stopped rest) _ (held_front at)).0
deed_view_is m hand (Resume of_entry) rest h at = now_held m hand (Resume of_entry) rest _ at
    (undoes_entry m.state.stopped m.state.entry (owed_in m.state.stopped rest) _ (first_may h at) (held_front at)).0
deed_view_is m hand (Resume of_stop) rest h at = now_held m hand (Resume of_stop) rest _ at
    (undoes_stop m.state.stopped m.state.entry (owed_in false rest) _ (first_may h at) (held_front at)).0
deed_view_is m hand deed rest h at = now_held m hand deed rest _ at (sym (held_front at))

pub deed_may : (m : Machine) (hand : Hand) (deed : Deed) (rest : List Part) → IsHolding m
    → IsAt m hand (Part.Sends deed) rest → may_send (an_effect (Does deed)) (view_of m) ≡ true
deed_may m hand Suspend rest h at = first_may h at
deed_may m hand (Resume of_composite) rest h at =
    (undoes_own m.state.stopped m.state.entry (owed_in m.state.stopped rest) _ (held_front at)).1
deed_may m hand (Resume of_entry) rest h at =
    (undoes_entry m.state.stopped m.state.entry (owed_in m.state.stopped rest) _ (first_may h at) (held_front at)).1
deed_may m hand (Resume of_stop) rest h at = both m.state.stopped _ (first_may h at)
    (undoes_stop m.state.stopped m.state.entry (owed_in false rest) _ (first_may h at) (held_front at)).1
  where
    both : (stopped some : Bool) → stopped ≡ true → some ≡ true → cond stopped some false ≡ true
    both stopped some is h = grind (arith, is, h)
deed_may m hand _ rest h at = refl

-- Events and notes ----------------------------------------------------------------------------------------------------

-- a stop is told while a suspension is held, which it holds from there on
pub stop_held : {m : Machine} {hand : Hand} {stopping : Stopping} {rest : List Part} → IsHolding m
    → IsAt m hand (Part.Tells (a_stop stopping)) rest
    → (held_with true m.state.entry (owed_in true rest) ≡ held_in m.state m.hand)
    × (nat_lt 0 (held_in m.state m.hand) ≡ true)
stop_held {m} {stopping = stopping} {rest} h at =
    by_cause stopping.cause m.state.stopped m.state.entry (owed_in true rest) (held_in m.state m.hand)
    (first_holds (may_stop stopping.cause m.state.stopped rest) _ (may_front h at)) (held_front at)
  where
    by_hit : (stopped entry : Bool) (owed held : ℕ) → held ≡ held_with stopped entry (cond (not stopped) (owed + 1) owed)
        → (held_with true entry owed ≡ held) × (nat_lt 0 held ≡ true)
    by_hit true entry owed held is = (sym is, grind (arith, is))
    by_hit false entry owed held is = (omega (arith, is), grind (arith, is))

    by_cause : (cause : StopCause) (stopped entry : Bool) (owed held : ℕ) → may_stop cause stopped rest ≡ true
        → held ≡ held_with stopped entry (cond (begins stopped cause) (owed + 1) owed)
        → (held_with true entry owed ≡ held) × (nat_lt 0 held ≡ true)
    by_cause (Hit entries) true entry owed held may is = by_hit true entry owed held is
    by_cause (Hit entries) false entry owed held may is = by_hit false entry owed held is
    by_cause (by_exception text) true entry owed held may is = by_hit true entry owed held is
    by_cause (by_exception text) false entry owed held may is = by_hit false entry owed held is
    by_cause by_step true entry owed held may is = by_hit true entry owed held is
    by_cause by_step false entry owed held may is = by_hit false entry owed held is
    by_cause by_client true entry owed held may is = (sym is, grind (arith, is))
    by_cause by_client false entry owed held may is = cc

-- what is logged is told while a suspension is held
pub logged_held : {m : Machine} {hand : Hand} {text : List ℕ} {rest : List Part} → IsHolding m
    → IsAt m hand (Part.Tells (Logged text)) rest → nat_lt 0 (held_in m.state m.hand) ≡ true
logged_held {m} {rest = rest} h at =
    by_rest rest (first_holds (decides_next rest) _ (may_front h at)) (held_in m.state m.hand) (held_front at)
  where
    more : (stopped entry : Bool) (owed held : ℕ) → held ≡ held_with stopped entry (owed + 1) → nat_lt 0 held ≡ true
    more stopped entry owed held is = grind (arith, is)

    by_rest : (rest : List Part) → decides_next rest ≡ true → (held : ℕ)
        → held ≡ held_with m.state.stopped m.state.entry (owed_in m.state.stopped rest) → nat_lt 0 held ≡ true
    by_rest (Part.Unfolds (Decides logged stops) ∷ rest) next held is =
        more m.state.stopped m.state.entry (owed_in m.state.stopped rest) held is
    by_rest _ next held is = cc

-- the entry is held
pub entry_held : {m : Machine} {hand : Hand} {rest : List Part} → IsHolding m → IsAt m hand (Part.Notes EntryHeld) rest
    → held_with m.state.stopped true (owed_in m.state.stopped rest) ≡ held_in m.state m.hand
entry_held {m} {rest = rest} h at =
    by_entry m.state.entry (owed_in m.state.stopped rest) (held_in m.state m.hand)
    (first_holds (not m.state.entry) _ (may_front h at)) (held_front at)
  where
    by_entry : (entry : Bool) (owed held : ℕ) → not entry ≡ true
        → held ≡ held_with m.state.stopped entry (owed + 1) → held_with m.state.stopped true owed ≡ held
    by_entry true owed held may is = cc
    by_entry false owed held may is = omega (arith, is)

-- where the target is gone nothing is held
pub free_owes : (stopped : Bool) (parts : List Part) → free_once true parts ≡ true → owed_in stopped parts ≡ 0
free_owes stopped [] is = refl
free_owes stopped (part ∷ parts) is = grind (arith, is, free_owes (stopped_behind part stopped) parts)

pub gone_owed : (gone stopped : Bool) (hand : Option Hand) → gone ≡ true → passed free_once gone hand ≡ true
    → owed_by stopped hand ≡ 0
gone_owed true stopped None is f = refl
gone_owed true stopped (Some hand) is f = free_owes stopped hand.parts f
gone_owed false stopped hand is f = cc

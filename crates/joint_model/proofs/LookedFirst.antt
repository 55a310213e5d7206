-- A look-up that is still to be done has no deed before it: whatever was sent for the item in hand changed no value.
use Rattle.std.proofs.Common.{◌≡◌, ℕ, Bool, true, false, cond, not, ◌||◌, List, [], ◌∷◌, ◌++◌, Option, Some, None, refl}
use Rattle.std.proofs.Common.{sym, ap, subst, ◌∙◌, arith, option_map}
use Rattle.std.proofs.lemmas.Bool.{not-true}
use Rattle.joint_model.specs.Laws.{has_look, is_look, wrote_nothing}
use Rattle.joint_model.specs.Names.{Choice, Clear, Decides, Deed, Does, Effect, Finding, Item, Judges, Lookup, Part}
use Rattle.joint_model.specs.Names.{Set, Strike, TellsNews, a_raw, a_request, breakpoint_hits, variable_write}
use Rattle.machine_model.specs.Lookups.{finished}
use Rattle.machine_model.specs.Plans.{Result}
use Rattle.machine_model.specs.Replying.{given_up}
use Rattle.machine_model.specs.Requests.{Wishes, effect_due, effect_of}
use Rattle.machine_model.specs.Rows.{chosen, failure_of, news_of, parts_by, parts_of, row_of, wanting}
use Rattle.machine_model.specs.Runs.{Message, Run}
use Rattle.machine_model.specs.State.{Hand, Machine, State, is_none}
use Rattle.machine_model.specs.Stops.{decided, surplus}
use Rattle.machine_model.specs.declared.acts.Doing.{Doing}
use Rattle.dap_messages.specs.declared.requests.Command.{Command}
use Rattle.dap_messages.specs.declared.told.Failure.{Failure}
use Rattle.machine_steps.proofs.Stepping.{IsAt, Moves, by_runs}
use Rattle.machine_steps.proofs.Tables.{of_decided, of_judged, of_told, told_alike}
use Rattle.machine_steps.proofs.Testing.{IsTest, Passed, tested, whole}
use Rattle.wish_sets.specs.Wishes.{WishChange, clears, next_change, sets}

-- Tests of parts ------------------------------------------------------------------------------------------------------

-- the part is a deed, or may become one
abbrev acts_by : Choice → Bool
acts_by (TellsNews below) = false
acts_by _ = true

-- the look-up becomes a deed, or a decision
abbrev acts_on : Lookup → Bool
acts_on (variable_write thing name text) = true
acts_on (breakpoint_hits strikes) = true
acts_on _ = false

abbrev acts : Part → Bool
acts (Part.Sends deed) = true
acts (Part.Unfolds choice) = acts_by choice
acts (Part.Looks lookup) = acts_on lookup
acts _ = false

-- behind a deed nothing is looked up
abbrev looked_first : List Part → Bool
looked_first [] = true
looked_first (part ∷ parts) = cond (cond (acts part) (not (has_look parts)) true) (looked_first parts) false

abbrev first_looked : Bool → List Part → Bool
first_looked gone parts = looked_first parts

row_first : (failure : Option Failure) (command : Command) (state : State)
    → looked_first (parts_by failure (row_of command state)) ≡ true
row_first failure command state = grind arith

first_begun : (state : State) (item : Item) → looked_first (parts_of state item) ≡ true
first_begun state (a_request request) = row_first (failure_of (wanting request.command) state) request.command state
first_begun state (a_raw at body) = refl
first_begun state _ = grind arith

two : (a b : Bool) → cond a b false ≡ true → (a ≡ true) × (b ≡ true)
two true b is = (refl, is)
two false b is = absurd cc

first_decided : (state : State) (logged : List (List ℕ)) (stops : List Strike) (item : Item) (rest : List Part)
    → not (has_look rest) ≡ true → looked_first rest ≡ true
    → looked_first (decided state logged stops item ++ rest) ≡ true
first_decided state logged stops item rest none is =
    of_decided (λ parts. looked_first (parts ++ rest) ≡ true) is is (resumes none is)
    (λ stopped thrown stops halt. of_told (λ part. looked_first (part ∷ surplus stopped ++ rest) ≡ true)
    (λ stopping. by_surplus stopped) (λ thread object. by_surplus stopped) stops halt)
    (λ text texts stops. resumes none is) state logged stops item
  where
    resumes : not (has_look rest) ≡ true → looked_first rest ≡ true
        → cond (not (has_look rest)) (looked_first rest) false ≡ true
    resumes none is = rw none is

    by_surplus : (stopped : Bool) → looked_first (surplus stopped ++ rest) ≡ true
    by_surplus false = is
    by_surplus true = resumes none is

first_chosen : (choice : Choice) (state : State) (hand : Hand) (rest : List Part)
    → looked_first (Part.Unfolds choice ∷ rest) ≡ true → looked_first (chosen choice state hand ++ rest) ≡ true
first_chosen (TellsNews below) state hand rest is =
    told_alike looked_first (λ news parts. refl) state.phase (news_of below state hand.item) rest ∙ is
first_chosen Judges state hand rest is =
    let both = two (not (has_look rest)) (looked_first rest) is in
    of_judged (λ parts. looked_first (parts ++ rest) ≡ true) both.1 (λ strikes. is) state hand.item
first_chosen (Decides logged stops) state hand rest is =
    let both = two (not (has_look rest)) (looked_first rest) is in
    first_decided state logged stops hand.item rest both.0 both.1
first_chosen _ state hand rest is = grind (arith, is)

first_found : (lookup : Lookup) (result : Result Finding) (state : State) (rest : List Part)
    → looked_first (Part.Looks lookup ∷ rest) ≡ true → looked_first (finished lookup result state ++ rest) ≡ true
first_found lookup result state rest is = grind (arith, is)

first_test : IsTest first_looked
first_test = record {
  none = λ gone. refl;
  tail = λ gone part rest is. grind (arith, is);
  begins = first_begun;
  unfolds = first_chosen;
  finds = first_found;
  gives_up = λ responds item. grind arith;
}

-- what a choice becomes looks something up only where it judges or decides, or what stands behind does
chosen_looks : (choice : Choice) (state : State) (hand : Hand) (rest : List Part)
    → has_look (chosen choice state hand ++ rest) ≡ true → has_look (Part.Unfolds choice ∷ rest) ≡ true
chosen_looks (TellsNews below) state hand rest is =
    sym (told_alike has_look (λ news parts. refl) state.phase (news_of below state hand.item) rest) ∙ is
chosen_looks Judges state hand rest is = refl
chosen_looks (Decides logged stops) state hand rest is = refl
chosen_looks _ state hand rest is = grind (arith, is)

-- Deeds come last -----------------------------------------------------------------------------------------------------

abbrev pub is_deed : Effect → Bool
is_deed (Does deed) = true
is_deed (Set wish) = false
is_deed (Clear wish request) = false

-- the last effect was a deed
abbrev pub did : Option Doing → Bool
did None = false
did (Some doing) = is_deed doing.effect

-- where the last effect was a deed, nothing more is looked up
abbrev pub DeedLast : Option Hand → Type 0
DeedLast None = Unit {0}
DeedLast (Some hand) = did hand.effect ≡ true → has_look hand.parts ≡ false

-- an event request is set or cleared by no deed
pub due_plain : (w : Wishes) (effect : Effect) → effect_due w ≡ Some effect → is_deed effect ≡ false
due_plain w effect due = by_change (next_change w) due
  where
    by_change : (change : Option WishChange) → option_map effect_of change ≡ Some effect → is_deed effect ≡ false
    by_change None is = cc
    by_change (Some (sets wish)) is = let same : Set wish ≡ effect = cc in ap is_deed (sym same)
    by_change (Some (clears one)) is = let same : Clear one.wish one.request ≡ effect = cc in ap is_deed (sym same)

none_behind : (here later : Bool) → (here || later) ≡ false → later ≡ false
none_behind true later is = absurd cc
none_behind false later is = is

pub hand_last : {hand : Hand} {held : Option Hand} → held ≡ Some hand → DeedLast held → DeedLast (Some hand)
hand_last is d = subst (λ (held : Option Hand). DeedLast held) is d

at_last : {m : Machine} {hand : Hand} {part : Part} {rest : List Part} → DeedLast m.hand → IsAt m hand part rest
    → did hand.effect ≡ true → has_look (part ∷ rest) ≡ false
at_last d at is = sym (ap has_look at.parts) ∙ hand_last at.in_hand d is

behind_last : {m : Machine} {hand : Hand} {part : Part} {rest : List Part} → DeedLast m.hand → IsAt m hand part rest
    → did hand.effect ≡ true → has_look rest ≡ false
behind_last {part = part} {rest} d at is = none_behind (is_look part) (has_look rest) (at_last d at is)

given_last : (held : Option Hand) → DeedLast (option_map given_up held)
given_last None = tt
given_last (Some hand) = λ is. absurd cc

sent_last : {m : Machine} {hand : Hand} {deed : Deed} {rest : List Part} → Passed first_looked m
    → IsAt m hand (Part.Sends deed) rest → has_look rest ≡ false
sent_last {rest = rest} t at =
    let both = two (not (has_look rest)) (looked_first rest) (whole first_looked t at) in
    not-true (has_look rest) both.0

deed_on : (m next : Machine) (said : Option Message) → Passed first_looked m → Moves m said next → DeedLast m.hand
    → DeedLast next.hand
deed_on m next said t (Moves.begins picked free none is) d = λ is. absurd cc
deed_on m next said t (Moves.drops free is none) d = tt
deed_on m next said t (Moves.responds free at is) d = behind_last d at
deed_on m next said t (Moves.finds found free at needs done) d =
    λ is. let no : true ≡ false = at_last d at is in absurd cc
deed_on m next said t (Moves.passes_over free at why) d = behind_last d at
deed_on m next said t (Moves.tells free at) d = behind_last d at
deed_on m next said t (Moves.sends free at near) d = λ is. sent_last t at
deed_on m next said t (Moves.updates {effect = effect} free at is near) d =
    λ deed. let no : true ≡ false = sym deed ∙ due_plain m.state.wishes effect is in absurd cc
deed_on m next said t (Moves.notes free at) d = behind_last d at
deed_on m next said t (Moves.unfolds {hand} {choice} {rest} free at) d =
    λ is. by_look (has_look (chosen choice m.state hand ++ rest)) refl (at_last d at is)
  where
    by_look : (some : Bool) → has_look (chosen choice m.state hand ++ rest) ≡ some
        → has_look (Part.Unfolds choice ∷ rest) ≡ false → some ≡ false
    by_look true is none =
        let no : true ≡ false = sym (chosen_looks choice m.state hand rest is) ∙ none in absurd cc
    by_look false is none = refl
deed_on m next said t (Moves.queues free is) d = hand_last is d
deed_on m next said t (Moves.asks free room is are) d = rw is (hand_last is d)
deed_on m next said t (Moves.answers is waits reply stays) d = rw is (hand_last is d)
deed_on m next said t (Moves.replies {hand = hand} is flies reply stays) d =
    rw is (λ deed. hand_last is d (ap did flies ∙ deed))
deed_on m next said t (Moves.loses late near why) d = given_last m.hand
deed_on m next said t _ d = d

pub deed_last : {messages : List Message} {m : Machine} → Run messages m → DeedLast m.hand
deed_last r = by_runs {Holds = λ (messages : List Message) (m : Machine). DeedLast m.hand} (record {
  starts = tt;
  moves = λ messages m next said before d moved after. deed_on m next said (tested first_test before) moved d;
  queues = λ messages m hand queue before may d. d;
}) r

-- behind a deed nothing is looked up
pub sent_closed : {messages : List Message} {m : Machine} {hand : Hand} {deed : Deed} {rest : List Part}
    → Run messages m → IsAt m hand (Part.Sends deed) rest → has_look rest ≡ false
sent_closed r at = sent_last (tested first_test r) at

-- What wrote nothing so far -------------------------------------------------------------------------------------------

some_front : (none here later : Bool) → (none || later) ≡ true → (none || (here || later)) ≡ true
some_front none here later is = grind (arith, is)

pub wrote_front : {m : Machine} {hand : Hand} {part : Part} {rest : List Part} → IsAt m hand part rest
    → (is_none hand.effect || has_look rest) ≡ true → wrote_nothing hand ≡ true
wrote_front {hand = hand} {part} {rest} at is =
    ap (λ (parts : List Part). is_none hand.effect || has_look parts) at.parts
    ∙ some_front (is_none hand.effect) (is_look part) (has_look rest) is

pub wrote_here : {m : Machine} {hand : Hand} {part : Part} {rest : List Part} → IsAt m hand part rest
    → (is_none hand.effect || has_look (part ∷ rest)) ≡ true → wrote_nothing hand ≡ true
wrote_here {hand = hand} at is = ap (λ (parts : List Part). is_none hand.effect || has_look parts) at.parts ∙ is

pub wrote_chosen : {m : Machine} {hand : Hand} {choice : Choice} {rest : List Part}
    → IsAt m hand (Part.Unfolds choice) rest
    → (is_none hand.effect || has_look (chosen choice m.state hand ++ rest)) ≡ true → wrote_nothing hand ≡ true
wrote_chosen {m} {hand} {choice} {rest} at is = wrote_here at
    (by_look (is_none hand.effect) (has_look (chosen choice m.state hand ++ rest)) refl is)
  where
    by_look : (none some : Bool) → has_look (chosen choice m.state hand ++ rest) ≡ some → (none || some) ≡ true
        → (none || has_look (Part.Unfolds choice ∷ rest)) ≡ true
    by_look true some is h = refl
    by_look false true is h = chosen_looks choice m.state hand rest is
    by_look false false is h = absurd cc

-- Each composite that suspends the whole target is dealt with, once.
use Rattle.std.proofs.Common.{◌≡◌, ℕ, Bool, true, false, cond, ◌||◌, List, [], ◌∷◌, ◌++◌, Option, Some, None, refl}
use Rattle.std.proofs.Common.{sym, ap, subst, ◌∙◌, option_map, arith}
use Rattle.std.specs.List.{AllByRecursion as All, flat_map, list_any}
use Rattle.machine_model.specs.Due.{Picked, begun, pick}
use Rattle.machine_model.specs.Knowing.{View, composite_in, is_fresh, view_of, waiting_composites}
use Rattle.machine_model.specs.Outcomes.{result_of}
use Rattle.machine_model.specs.Requests.{Wishes, effect_due, effect_of}
use Rattle.machine_model.specs.Rest.{IsAtRest}
use Rattle.machine_model.specs.Rows.{chosen, parts_of}
use Rattle.machine_model.specs.Runs.{Message, Run}
use Rattle.machine_model.specs.State.{Hand, Machine, is_attached, is_gone}
use Rattle.machine_model.specs.Stops.{decided, events_in, strikes_in}
use Rattle.machine_model.specs.Telling.{after_event, event_told, hit_told, reason_told}
use Rattle.machine_steps.specs.Names.{Attached, Clear, Choice, Composite, Decides, Deed, Dispose, Does, Effect, Event}
use Rattle.machine_steps.specs.Names.{Exit, Fresh, Gone, Hit, Initialized, Item, Logged, Part, Phase, Resume, Set}
use Rattle.machine_steps.specs.Names.{StopCause, Stopping, TargetCommand, Strike, Suspend, Terminated, Writes}
use Rattle.machine_steps.specs.Names.{a_composite, a_question, a_raw, a_request, an_effect, an_event, by_client}
use Rattle.machine_steps.specs.Names.{by_exception, by_step, entry_verified, of_composite, of_entry, of_stop}
use Rattle.machine_steps.specs.Names.{some_news, target_end, thread_changed, a_stop as a_halt}
use Rattle.composite_laws.specs.Dealing.{AreAllDealtWith, AreDealtWith, IsDealtWith, IsDecision, IsOfHand, Owed}
use Rattle.composite_laws.specs.Dealing.{a_decision, a_resume, a_stop, is_entry, is_of_target, is_stopping, may_deal}
use Rattle.composite_laws.specs.Dealing.{owed_at_turn, owed_behind, owed_once_decided, tells_stop, undoes}
use Rattle.composite_laws.proofs.OwedParts.{asked_owed, chosen_owed, composite_owed, decided_owed, end_owed}
use Rattle.composite_laws.proofs.OwedParts.{found_owed, front_owed, gone_owed, last_decided, owed_by, owed_cause}
use Rattle.composite_laws.proofs.OwedParts.{is_composite, on_composite, owed_all, owed_in, owed_on, owed_part}
use Rattle.composite_laws.proofs.OwedParts.{replied_owed, request_owed, skipped_owed}
use Rattle.composite_laws.proofs.StruckHands.{IsOwnStop, always_struck, struck_front}
use Rattle.machine_laws.proofs.EarlyItems.{IsEarly, always_early, not_fresh}
use Rattle.machine_laws.proofs.ItemLaws.{picked_composites}
use Rattle.machine_laws.proofs.KnowingLaws.{Sees, sees_on}
use Rattle.machine_steps.proofs.HoldingParts.{holding, may_front}
use Rattle.machine_steps.proofs.SizeLaws.{is_idle}
use Rattle.machine_steps.proofs.Stepping.{IsAt, Loses, Moves, by_runs, with_said}
use Rattle.machine_steps.proofs.Tables.{free}
use Rattle.machine_steps.proofs.Testing.{tested}
use Rattle.wish_sets.specs.Wishes.{WishChange, clears, next_change, sets}

-- One move ------------------------------------------------------------------------------------------------------------

-- What a move is to what is owed: nothing, a turn, a decision, or a message that may be there.
data Deals (messages : List Message) (m : Machine) : Machine → Option Message → Type 0 where
  nothing : {next : Machine} {hand : Hand} → m.hand ≡ Some hand → owed_by next.hand ≡ owed_by m.hand
      → Deals messages m next None
  turns : (picked : Picked) → m.hand ≡ None → pick (is_gone m.state.phase) m.waiting ≡ Some picked
      → Deals messages m (begun m picked.item picked.rest) None
  decides : {next : Machine} {hand : Hand} {composite : Composite} → m.hand ≡ Some hand
      → owed_by m.hand ≡ a_decision composite ∷ [] → IsDecision messages composite m
      → owed_by next.hand ≡ owed_once_decided composite (list_any (is_stopping m) composite.events)
      m.state.stopped (is_entry m composite)
      → Deals messages m next None
  speaks : {next : Machine} {message : Message} → may_deal message (owed_by m.hand) ≡ true
      → (is_gone next.state.phase ≡ false → owed_by next.hand ≡ owed_behind false message (owed_by m.hand))
      → Deals messages m next (Some message)

-- a message that tells no stop of the target's and undoes no suspension of a composite
abbrev is_other : Message → Bool
is_other message = cond (tells_stop message) false (cond (undoes message) false true)

other_may : (message : Message) (owed : List Owed) → is_other message ≡ true → may_deal message owed ≡ true
other_may message owed is = by_tests (tells_stop message) (undoes message) _ _ is
  where
    by_tests : (tells undoes stop resume : Bool) → cond tells false (cond undoes false true) ≡ true
        → cond tells stop (cond undoes resume true) ≡ true
    by_tests tells undoes stop resume is = grind (arith, is)

other_behind : (message : Message) (owed : List Owed) → is_other message ≡ true → owed_behind false message owed ≡ owed
other_behind message owed is = by_tests (tells_stop message) (undoes message) _ is
  where
    by_tests : (tells undoes : Bool) (less : List Owed) → cond tells false (cond undoes false true) ≡ true
        → cond (tells || undoes) less owed ≡ owed
    by_tests tells undoes less is = grind (arith, is)

-- a message that does nothing with a composite
other_says : (messages : List Message) (m next : Machine) (message : Message) → is_other message ≡ true
    → owed_by next.hand ≡ owed_by m.hand → Deals messages m next (Some message)
other_says messages m next message is same =
    Deals.speaks (other_may message (owed_by m.hand) is) (λ near. same ∙ sym (other_behind message (owed_by m.hand) is))

-- a part stands in front, and does nothing with a composite either
other_part : (messages : List Message) (m next : Machine) (message : Message) (hand : Hand) (part : Part)
    (rest : List Part) → IsAt m hand part rest → owed_part hand.item part ≡ []
    → owed_by next.hand ≡ owed_in hand.item rest → is_other message ≡ true → Deals messages m next (Some message)
other_part messages m next message hand part rest at none now is = other_says messages m next message is
    (now ∙ sym (front_owed at ∙ ap (λ (owed : List Owed). owed ++ owed_in hand.item rest) none))

-- Events --------------------------------------------------------------------------------------------------------------

hit_is : (entries : List _) → is_of_target (hit_told entries) ≡ true
hit_is entries = grind arith

-- a stop is told
stop_says : {messages : List Message} (m next : Machine) (hand : Hand) (stopping : Stopping) (rest : List Part)
    → Run messages m → IsAt m hand (Part.Tells (a_halt stopping)) rest → owed_by next.hand ≡ owed_in hand.item rest
    → Deals messages m next
    (Some (Message.tells (an_event (event_told (a_halt stopping) (after_event (a_halt stopping) m.state)))))
stop_says {messages} m next hand stopping rest r at now =
    by_cause stopping.cause refl (struck_front (always_struck r) at).0
  where
    message : Message
    message = Message.tells (an_event (event_told (a_halt stopping) (after_event (a_halt stopping) m.state)))

    reason_of : (cause : StopCause) → stopping.cause ≡ cause
        → tells_stop message ≡ is_of_target (reason_told cause (after_event (a_halt stopping) m.state))
    reason_of why is =
        ap (λ (cause : StopCause). is_of_target (reason_told cause (after_event (a_halt stopping) m.state))) is

    of_target : tells_stop message ≡ true
        → owed_part hand.item (Part.Tells (a_halt stopping)) ≡ owed_on hand.item a_stop
        → is_composite hand.item ≡ true → Deals messages m next (Some message)
    of_target tells owes own = let on = on_composite hand.item a_stop own in
        let front = front_owed at ∙ ap (λ (owed : List Owed). owed ++ owed_in hand.item rest) (owes ∙ on.are) in
        Deals.speaks (rw (tells, front) refl) (λ near. now ∙ sym (rw (tells, front) refl))

    by_cause : (cause : StopCause) → stopping.cause ≡ cause → IsOwnStop hand.item cause
        → Deals messages m next (Some message)
    by_cause by_client is own = other_part messages m next message hand (Part.Tells (a_halt stopping)) rest at
        (ap (owed_cause hand.item) is) now (rw (reason_of by_client is) refl)
    by_cause (Hit entries) is own =
        of_target (reason_of (Hit entries) is ∙ hit_is entries) (ap (owed_cause hand.item) is) own
    by_cause (by_exception text) is own =
        of_target (reason_of (by_exception text) is) (ap (owed_cause hand.item) is) own
    by_cause by_step is own = of_target (reason_of by_step is) (ap (owed_cause hand.item) is) own

event_says : (messages : List Message) (m next : Machine) (hand : Hand) (event : Event) (rest : List Part)
    → Run messages m → IsAt m hand (Part.Tells event) rest → owed_by next.hand ≡ owed_in hand.item rest
    → Deals messages m next (Some (Message.tells (an_event (event_told event (after_event event m.state)))))
event_says messages m next hand (a_halt stopping) rest r at now = stop_says m next hand stopping rest r at now
event_says messages m next hand Initialized rest r at now =
    other_part messages m next _ hand (Part.Tells Initialized) rest at refl now refl
event_says messages m next hand (some_news (entry_verified entry)) rest r at now =
    other_part messages m next _ hand (Part.Tells (some_news (entry_verified entry))) rest at refl now refl
event_says messages m next hand (some_news (thread_changed started thread)) rest r at now =
    other_part messages m next _ hand (Part.Tells (some_news (thread_changed started thread))) rest at refl now refl
event_says messages m next hand (Logged text) rest r at now =
    other_part messages m next _ hand (Part.Tells (Logged text)) rest at refl now refl
event_says messages m next hand Terminated rest r at now =
    other_part messages m next _ hand (Part.Tells Terminated) rest at refl now refl

-- Commands ------------------------------------------------------------------------------------------------------------

deed_says : (messages : List Message) (m next : Machine) (hand : Hand) (deed : Deed) (rest : List Part)
    → Run messages m → IsAt m hand (Part.Sends deed) rest → owed_by next.hand ≡ owed_in hand.item rest
    → Deals messages m next (Some (Message.sends (an_effect (Does deed))))
deed_says messages m next hand (Resume of_composite) rest r at now =
    let on = on_composite hand.item a_resume (struck_front (always_struck r) at).0 in
    let front = front_owed at ∙ ap (λ (owed : List Owed). owed ++ owed_in hand.item rest) on.are in
    Deals.speaks (rw front refl) (λ near. now ∙ sym (rw front refl))
deed_says messages m next hand (Resume of_entry) rest r at now =
    other_part messages m next _ hand (Part.Sends (Resume of_entry)) rest at refl now refl
deed_says messages m next hand (Resume of_stop) rest r at now =
    other_part messages m next _ hand (Part.Sends (Resume of_stop)) rest at refl now refl
deed_says messages m next hand Suspend rest r at now =
    other_part messages m next _ hand (Part.Sends Suspend) rest at refl now refl
deed_says messages m next hand Dispose rest r at now =
    other_part messages m next _ hand (Part.Sends Dispose) rest at refl now refl
deed_says messages m next hand Exit rest r at now =
    other_part messages m next _ hand (Part.Sends Exit) rest at refl now refl
deed_says messages m next hand (Writes write) rest r at now =
    other_part messages m next _ hand (Part.Sends (Writes write)) rest at refl now refl

-- a change of event requests undoes no suspension
change_other : (wishes : Wishes) (effect : Effect) → effect_due wishes ≡ Some effect
    → is_other (Message.sends (an_effect effect)) ≡ true
change_other wishes effect due = by_change (next_change wishes) due
  where
    by_change : (change : Option WishChange) → option_map effect_of change ≡ Some effect
        → is_other (Message.sends (an_effect effect)) ≡ true
    by_change None is = cc
    by_change (Some (sets wish)) is = let same : Set wish ≡ effect = cc in
        subst (λ (effect : Effect). is_other (Message.sends (an_effect effect)) ≡ true) same refl
    by_change (Some (clears one)) is = let same : Clear one.wish one.request ≡ effect = cc in
        subst (λ (effect : Effect). is_other (Message.sends (an_effect effect)) ≡ true) same refl

-- Choices -------------------------------------------------------------------------------------------------------------

-- it is decided on the composite in hand
decision_at : (messages : List Message) (m next : Machine) (hand : Hand) (stops : List Strike) → Run messages m
    → IsAt m hand (Part.Unfolds (Decides [] stops)) [] → is_attached m.state.phase ≡ true
    → stops ≡ strikes_in m.state.wishes (events_in hand.item) → (item : Item) → hand.item ≡ item
    → is_composite item ≡ true → owed_by next.hand ≡ owed_in hand.item (decided m.state [] stops hand.item ++ [])
    → Deals messages m next None
decision_at messages m next hand stops r at attached are (a_composite place composite) same is now =
    Deals.decides {composite = composite} at.in_hand
    (front_owed at ∙ ap (λ (item : Item). owed_in item (Part.Unfolds (Decides [] stops) ∷ [])) same)
    (record {
      run = r;
      hand = hand;
      place = place;
      stops = stops;
      is_held = at.in_hand;
      is_item = same;
      decides = at.parts;
    })
    (now ∙ ap (λ (item : Item). owed_in item (decided m.state [] stops item ++ [])) same
    ∙ decided_owed m place composite stops attached
    (are ∙ ap (λ (item : Item). strikes_in m.state.wishes (events_in item)) same))
decision_at messages m next hand stops r at attached are _ same is now = cc

chosen_deals : (messages : List Message) (m next : Machine) (hand : Hand) (choice : Choice) (rest : List Part)
    → Run messages m → IsAt m hand (Part.Unfolds choice) rest
    → owed_by next.hand ≡ owed_in hand.item (chosen choice m.state hand ++ rest) → Deals messages m next None
chosen_deals messages m next hand (Decides [] stops) rest r at now =
    let last = last_decided m.state [] stops rest (may_front (holding r) at) in
    let struck = (struck_front (always_struck r) at).0 in
    decision_at messages m next hand stops r
    (subst (λ (rest : List Part). IsAt m hand (Part.Unfolds (Decides [] stops)) rest) last.none at) last.attached
    struck.are hand.item refl struck.composite
    (now ∙ ap (λ (rest : List Part). owed_in hand.item (decided m.state [] stops hand.item ++ rest)) last.none)
chosen_deals messages m next hand choice rest r at now = Deals.nothing at.in_hand
    (now ∙ chosen_owed choice m.state hand rest refl (may_front (holding r) at) ∙ sym (front_owed at))

-- Turns ---------------------------------------------------------------------------------------------------------------

no_longer : {A : Type 0} (a : A) (others : List A) → ¬ (others ≡ a ∷ others)
no_longer a [] is = cc
no_longer a (first ∷ others) is = no_longer first others cc

abbrev Dealt : List Message → Machine → Type 0
Dealt messages m = AreDealtWith messages (view_of m) (owed_by m.hand)

owes_as : {messages : List Message} {view : View} {owed now : List Owed} → owed ≡ now
    → AreDealtWith messages view owed → AreDealtWith messages view now
owes_as {messages} {view} same read = subst (λ (owed : List Owed). AreDealtWith messages view owed) same read

seen_as : {messages : List Message} {view now : View} {owed : List Owed} → view ≡ now
    → AreDealtWith messages view owed → AreDealtWith messages now owed
seen_as {messages} {owed = owed} same read = subst (λ (view : View). AreDealtWith messages view owed) same read

-- an item is at its turn
module _ (m : Machine) (picked : Picked) (is : pick (is_gone m.state.phase) m.waiting ≡ Some picked) where
  are : flat_map composite_in m.waiting ≡ composite_in picked.item ++ flat_map composite_in picked.rest
  are = picked_composites (is_gone m.state.phase) m.waiting picked is

  waits : (phase : Phase) → m.state.phase ≡ phase → is_gone phase ≡ false → (items : List Item)
      → waiting_composites (is_gone m.state.phase) items ≡ flat_map composite_in items
  waits phase same near items = rw (same, near) refl

  -- where nothing is learnt of it, it is no composite, or its target is gone
  passed_owed : (item : Item) → picked.item ≡ item
      → ((at : ℕ) (composite : Composite) → item ≡ a_composite at composite → is_fresh m.state.phase ≡ false)
      → waiting_composites (is_gone m.state.phase) picked.rest ≡ waiting_composites (is_gone m.state.phase) m.waiting
      → owed_in item (parts_of m.state item) ≡ []
  passed_owed (a_request request) same late stays = request_owed m.state request.command (a_request request)
  passed_owed (a_raw at body) same late stays = refl
  passed_owed target_end same late stays = end_owed m.state.terminated target_end
  passed_owed (a_composite at composite) same late stays = by_phase m.state.phase refl (late at composite refl)
    where
      by_phase : (phase : Phase) → m.state.phase ≡ phase → is_fresh phase ≡ false
          → owed_in (a_composite at composite) (parts_of m.state (a_composite at composite)) ≡ []
      by_phase Fresh here late = cc
      by_phase Gone here late = rw here refl
      by_phase Attached here late = absurd (no_longer composite (flat_map composite_in picked.rest)
          (sym (waits Attached here refl picked.rest) ∙ stays ∙ waits Attached here refl m.waiting ∙ are
          ∙ ap (λ (item : Item). composite_in item ++ flat_map composite_in picked.rest) same))

  -- else it is the composite that was first
  turned_owed : (item : Item) → picked.item ≡ item → m.state.phase ≡ Attached → (composite : Composite)
      (others : List Composite) → waiting_composites (is_gone m.state.phase) m.waiting ≡ composite ∷ others
      → waiting_composites (is_gone m.state.phase) picked.rest ≡ others
      → owed_in item (parts_of m.state item) ≡ owed_at_turn composite
  turned_owed item same attached composite others first rest = by_item item firsts
    where
      firsts : composite_in item ++ flat_map composite_in picked.rest ≡ composite ∷ others
      firsts = ap (λ (item : Item). composite_in item ++ flat_map composite_in picked.rest) (sym same) ∙ sym are
          ∙ sym (waits Attached attached refl m.waiting) ∙ first

      later : flat_map composite_in picked.rest ≡ others
      later = sym (waits Attached attached refl picked.rest) ∙ rest

      by_item : (item : Item) → composite_in item ++ flat_map composite_in picked.rest ≡ composite ∷ others
          → owed_in item (parts_of m.state item) ≡ owed_at_turn composite
      by_item (a_composite at one) firsts = let same : one ≡ composite = cc in
          rw attached (composite_owed at m.state.next_entry one) ∙ ap owed_at_turn same
      by_item (a_request request) firsts = absurd (no_longer composite others (sym later ∙ firsts))
      by_item (a_raw at body) firsts = absurd (no_longer composite others (sym later ∙ firsts))
      by_item target_end firsts = absurd (no_longer composite others (sym later ∙ firsts))

begun_dealt : (messages : List Message) (m : Machine) (picked : Picked) → m.hand ≡ None
    → pick (is_gone m.state.phase) m.waiting ≡ Some picked → IsEarly m
    → Sees m (begun m picked.item picked.rest) None → Dealt messages m
    → Dealt messages (begun m picked.item picked.rest)
begun_dealt messages m picked none is soon (Sees.as_said stays) read =
    seen_as (sym stays) (owes_as (ap owed_by none ∙ sym (passed_owed m picked is picked.item refl
    (λ at composite item. not_fresh m picked at composite soon none is item)
    (ap (λ (view : View). view.composites) stays))) read)
begun_dealt messages m picked none is soon (Sees.at_turn composite others idle attached first turned) read =
    seen_as (sym turned) (owes_as (sym (turned_owed m picked is picked.item refl attached composite others first
    (ap (λ (view : View). view.composites) turned)))
    (AreDealtWith.turns composite others (owes_as (ap owed_by none) read) attached first))

-- All moves -----------------------------------------------------------------------------------------------------------

lost_other : {m : Machine} {message : Message} {late : List TargetCommand} → Loses m message late
    → is_other message ≡ true
lost_other Loses.by_end = refl
lost_other (Loses.by_question is waits reply last) = refl
lost_other (Loses.by_effect is flies reply last) = refl

deals_on : (messages : List Message) (m next : Machine) (said : Option Message) → Run messages m → Moves m said next
    → Deals messages m next said
deals_on messages m next said r (Moves.begins picked free none is) = Deals.turns picked none is
deals_on messages m next said r (Moves.drops {hand} free is none) =
    Deals.nothing is (sym (ap owed_by is ∙ ap (λ (parts : List Part). owed_in hand.item parts) none))
deals_on messages m next said r (Moves.responds {hand} {rest} {outcome = outcome} free at is) =
    other_part messages m next _ hand (Part.Responds outcome) rest at refl refl refl
deals_on messages m next said r (Moves.finds {hand} {rest} {lookup} found free at needs done) =
    Deals.nothing at.in_hand (found_owed hand.item lookup (result_of found) m.state rest ∙ sym (front_owed at))
deals_on messages m next said r (Moves.passes_over {hand} {part} {rest} free at why) =
    Deals.nothing at.in_hand (skipped_owed hand.item rest why ∙ sym (front_owed at))
deals_on messages m next said r (Moves.tells {hand} {rest} {event} free at) =
    event_says messages m next hand event rest r at refl
deals_on messages m next said r (Moves.sends {hand} {rest} {deed} free at near) =
    deed_says messages m next hand deed rest r at refl
deals_on messages m next said r (Moves.updates {hand} {effect} {rest} free at is near) =
    other_says messages m next _ (change_other m.state.wishes effect is) (sym (front_owed at))
deals_on messages m next said r (Moves.greets free at is near) = other_says messages m next _ refl refl
deals_on messages m next said r (Moves.notes {hand} {note} {rest} free at) =
    Deals.nothing at.in_hand (sym (front_owed at))
deals_on messages m next said r (Moves.unfolds {hand} {choice} {rest} free at) =
    chosen_deals messages m next hand choice rest r at refl
deals_on messages m next said r (Moves.queues free is) = Deals.nothing is (sym (ap owed_by is))
deals_on messages m next said r (Moves.asks {want = want} free room is are) =
    other_says messages m next _ refl (asked_owed want m.hand)
deals_on messages m next said r (Moves.hears read is) = other_says messages m next _ refl refl
deals_on messages m next said r (Moves.greeted read is) = other_says messages m next _ refl refl
deals_on messages m next said r (Moves.answers {question} {replied} is waits reply stays) =
    other_says messages m next _ refl (replied_owed (a_question question) replied m.hand)
deals_on messages m next said r (Moves.replies {effect} {replied} is flies reply stays) =
    other_says messages m next _ refl (replied_owed (an_effect effect) replied m.hand)
deals_on messages m next said r (Moves.late before after is reply) = other_says messages m next _ refl refl
deals_on messages m next said r (Moves.ends gone) = other_says messages m next _ refl refl
deals_on messages m next said r (Moves.loses {message} late near why) =
    Deals.speaks (other_may message (owed_by m.hand) (lost_other why)) (λ here. cc)
deals_on messages m next said r (Moves.comes read sized taken) = other_says messages m next _ refl refl
deals_on messages m next said r (Moves.keeps is) = other_says messages m next _ refl refl
deals_on messages m next said r (Moves.reads before after read is none taken) = other_says messages m next _ refl refl

dealt_on : (messages : List Message) (m next : Machine) (said : Option Message) → Run messages m
    → Run (with_said messages said) next → Sees m next said → Deals messages m next said → Dealt messages m
    → Dealt (with_said messages said) next
dealt_on messages m next said r after sees (Deals.turns picked none is) read =
    begun_dealt messages m picked none is (always_early r) sees read
dealt_on messages m next said r after (Sees.as_said is) (Deals.nothing held same) read =
    seen_as (sym is) (owes_as (sym same) read)
dealt_on messages m next said r after (Sees.as_said is) (Deals.decides held owes decision now) read =
    seen_as (sym is) (owes_as (sym now) (AreDealtWith.decides (owes_as owes read) decision))
dealt_on messages m next said r after (Sees.at_turn composite others idle attached first turned)
    (Deals.nothing held same) read = let no : None ≡ Some _ = sym idle ∙ held in cc
dealt_on messages m next said r after (Sees.at_turn composite others idle attached first turned)
    (Deals.decides held owes decision now) read = let no : None ≡ Some _ = sym idle ∙ held in cc
dealt_on messages m next said r after (Sees.as_said is) (Deals.speaks {message = message} may behind) read =
    by_gone (is_gone next.state.phase) refl
  where
    now : (gone : Bool) → is_gone next.state.phase ≡ gone
        → AreDealtWith (messages ++ message ∷ []) (view_of next) (owed_behind gone message (owed_by m.hand))
    now gone same = seen_as (sym is) (owes_as (ap (λ (gone : Bool). owed_behind gone message (owed_by m.hand))
        (ap (λ (view : View). is_gone view.phase) (sym is) ∙ same)) (AreDealtWith.one_more message may read))

    by_gone : (gone : Bool) → is_gone next.state.phase ≡ gone → Dealt (messages ++ message ∷ []) next
    by_gone true gone = owes_as (sym (gone_owed (is_gone next.state.phase) next.hand gone (tested free after)))
        (now true gone)
    by_gone false near = owes_as (sym (behind near)) (now false near)

dealing : {messages : List Message} {m : Machine} → Run messages m → Dealt messages m
dealing r = by_runs {Holds = Dealt} (record {
  starts = AreDealtWith.none;
  moves = λ messages m next said before read moved after.
      dealt_on messages m next said before after (sees_on before moved)
      (deals_on messages m next said before moved) read;
  queues = λ messages m hand queue before may read. read;
}) r

-- The laws ------------------------------------------------------------------------------------------------------------

-- what is owed is owed by the composite in hand
of_hand : (m : Machine) (held : Option Hand) → m.hand ≡ held → All (IsOfHand m) (owed_by held)
of_hand m None is = tt
of_hand m (Some hand) is = by_item hand.item refl
  where
    by_item : (item : Item) → hand.item ≡ item → All (IsOfHand m) (owed_in item hand.parts)
    by_item (a_composite at composite) same = owed_all (IsOfHand m) (a_composite at composite)
        (record { hand = hand; place = at; is_held = is; is_item = same }, tt)
        (record { hand = hand; place = at; is_held = is; is_item = same }, tt)
        (record { hand = hand; place = at; is_held = is; is_item = same }, tt) hand.parts
    by_item (a_request request) same = owed_all (IsOfHand m) (a_request request) tt tt tt hand.parts
    by_item (a_raw place body) same = owed_all (IsOfHand m) (a_raw place body) tt tt tt hand.parts
    by_item target_end same = owed_all (IsOfHand m) target_end tt tt tt hand.parts

pub deals_with_each : (messages : List Message) (m : Machine) → Run messages m → IsDealtWith messages m
deals_with_each messages m r =
    record { owed = owed_by m.hand; read = dealing r; of_hand = of_hand m m.hand refl }

pub deals_with_all : (messages : List Message) (m : Machine) → Run messages m → IsAtRest m → m.state.phase ≡ Attached
    → AreAllDealtWith messages m
deals_with_all messages m r rests attached = let idle = is_idle messages m r rests in record {
  read = owes_as (ap owed_by idle.no_hand) (dealing r);
  none_waits = ap (λ (items : List Item). waiting_composites (is_gone m.state.phase) items)
      (idle.none_later (λ fresh. let no : Attached ≡ Fresh = sym attached ∙ fresh in cc))
      ∙ rw attached refl;
}

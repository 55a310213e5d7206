-- How the target is left, as each move keeps it.
use Rattle.std.proofs.Common.{◌≡◌, Bool, true, false, cond, not, ◌||◌, List, [], ◌∷◌, ◌++◌, Option, Some, None, refl}
use Rattle.std.proofs.Common.{sym, ap, subst, ◌∙◌, option_map, arith}
use Rattle.wish_sets.specs.Wishes.{WishChange, clears, next_change, sets}
use Rattle.machine_model.specs.Due.{asked_hand}
use Rattle.machine_model.specs.Knowing.{is_farewell, is_fresh}
use Rattle.machine_model.specs.Leaving.{answers_farewell, sends_farewell}
use Rattle.machine_model.specs.Lookups.{finished}
use Rattle.machine_model.specs.Outcomes.{result_of}
use Rattle.machine_model.specs.Pending.{has_such}
use Rattle.machine_model.specs.Replying.{given_up, hand_replied}
use Rattle.machine_model.specs.Requests.{Wishes, effect_due, effect_of}
use Rattle.machine_model.specs.Rows.{chosen, has_response, parts_of}
use Rattle.machine_model.specs.Runs.{Message, Run}
use Rattle.machine_model.specs.State.{Hand, Machine, State, is_attached, is_none}
use Rattle.machine_model.specs.Telling.{after_event}
use Rattle.machine_steps.specs.Names.{Choice, Clear, Deed, Does, Doing, Effect, Event, Item, Part, Phase, Question}
use Rattle.machine_steps.specs.Names.{Replied, Set, TargetCommand, Want, a_question, an_effect}
use Rattle.machine_steps.proofs.HandshakeLaws.{such_more}
use Rattle.machine_laws.proofs.LeavingParts.{Aim, aim_of, is_to_leave, is_sends, is_leave, is_ends, has_part}
use Rattle.machine_laws.proofs.LeavingParts.{may_stand, fits, left_by, sends_attached, is_over, was_left, stands}
use Rattle.machine_laws.proofs.LeavingParts.{hand_stands, begun_stands, chosen_fits, chosen_attached, chosen_leaves}
use Rattle.machine_laws.proofs.LeavingParts.{found_fits, gone_stands, has_both, fits_joined, none_sends, fits_of}
use Rattle.machine_laws.proofs.LeavingParts.{tail_stands, other_stands, split_fit, leaving_of, sends_there}
use Rattle.machine_laws.proofs.LeavingParts.{sends_leave, other_deed}
use Rattle.machine_steps.proofs.Stepping.{IsAt, Loses, Moves, Skips, by_moves, by_runs, with_said}
use Rattle.machine_steps.proofs.Testing.{same_noted, same_numbered, same_replied}
use Rattle.std.proofs.lemmas.Bool.{not-true}

-- The item in hand ----------------------------------------------------------------------------------------------------

-- whether there is such a message, with a message more or none
abbrev with_such : Bool → (Message → Bool) → Option Message → Bool
with_such was test None = was
with_such was test (Some message) = cond (test message) true was

such_said : (test : Message → Bool) (messages : List Message) (said : Option Message)
    → has_such test (with_said messages said) ≡ with_such (has_such test messages) test said
such_said test messages None = refl
such_said test messages (Some message) =
    such_more test messages message ∙ either (has_such test messages) (test message)
  where
    either : (was now : Bool) → (was || now) ≡ cond now true was
    either was now = grind arith

-- the item in hand stands so
hand_at : (attached sent replied : Bool) {held : Option Hand} {hand : Hand} → held ≡ Some hand
    → hand_stands attached sent replied held ≡ true
    → stands attached sent replied (aim_of hand.item) hand.parts hand.effect ≡ true
hand_at attached sent replied is h =
    subst (λ (held : Option Hand). hand_stands attached sent replied held ≡ true) is h

pub stands_at : (attached sent replied : Bool) {m : Machine} {hand : Hand} {part : Part} {rest : List Part}
    → IsAt m hand part rest → hand_stands attached sent replied m.hand ≡ true
    → stands attached sent replied (aim_of hand.item) (part ∷ rest) hand.effect ≡ true
stands_at attached sent replied {m} {hand} at h =
    subst (λ (parts : List Part). stands attached sent replied (aim_of hand.item) parts hand.effect ≡ true) at.parts
    (hand_at attached sent replied at.in_hand h)

-- what is asked for it, and what is replied, changes nothing
asked_stands : (attached sent replied : Bool) (want : Want) (hand : Option Hand)
    → hand_stands attached sent replied (option_map (asked_hand want) hand) ≡ hand_stands attached sent replied hand
asked_stands attached sent replied want hand = grind arith

answered_stands : (attached sent replied : Bool) (question : Question) (reply : Replied) (hand : Option Hand)
    → hand_stands attached sent replied (option_map (hand_replied (a_question question) reply) hand)
    ≡ hand_stands attached sent replied hand
answered_stands attached sent replied question reply hand = grind arith

-- an item that is given up
given_stands : (attached sent replied now : Bool) (hand : Option Hand)
    → hand_stands attached sent replied hand ≡ true
    → hand_stands false sent now (option_map given_up hand) ≡ true
given_stands attached sent replied now None h = h
given_stands attached sent replied now (Some hand) h =
    gone_stands (has_response hand.parts) hand.item sent now
    (by_bools (fits (aim_of hand.item) hand.parts) (sends_attached attached hand.parts)
    (is_to_leave (aim_of hand.item)) (cond (has_part is_ends hand.parts) (not (has_part is_leave hand.parts)) false)
    (was_left attached replied (aim_of hand.item) hand.parts hand.effect) h)
  where
    by_bools : (fit session leaves over left : Bool)
        → cond fit (cond session (cond (cond sent (cond leaves over false) true) left false) false) false ≡ true
        → cond sent leaves true ≡ true
    by_bools fit session leaves over left h = grind (arith, h)

-- a reply more
more_replied : (attached sent replied : Bool) (message : Message) (hand : Option Hand)
    → hand_stands attached sent replied hand ≡ true
    → hand_stands attached sent (cond (answers_farewell message) true replied) hand ≡ true
more_replied attached sent replied message hand h = by_test (answers_farewell message)
  where
    by_bools : (fit session over leaves more farewell none : Bool)
        → cond fit (cond session (cond over (cond leaves (cond attached (more || cond farewell (none || replied) false)
        true) true) false) false) false ≡ true
        → cond fit (cond session (cond over (cond leaves (cond attached (more || cond farewell (none || true) false)
        true) true) false) false) false ≡ true
    by_bools fit session over leaves more farewell none h = grind (arith, h)

    by_hand : (hand : Option Hand) → hand_stands attached sent replied hand ≡ true
        → hand_stands attached sent true hand ≡ true
    by_hand None h = h
    by_hand (Some hand) h = by_effect hand.effect h
      where
        by_effect : (effect : Option Doing)
            → stands attached sent replied (aim_of hand.item) hand.parts effect ≡ true
            → stands attached sent true (aim_of hand.item) hand.parts effect ≡ true
        by_effect None h = h
        by_effect (Some doing) h =
            by_bools (fits (aim_of hand.item) hand.parts) (sends_attached attached hand.parts)
            (cond sent (is_over (aim_of hand.item) hand.parts) true) (is_to_leave (aim_of hand.item))
            (has_part is_leave hand.parts) (is_farewell (an_effect doing.effect)) (is_none doing.reply) h

    by_test : (test : Bool) → hand_stands attached sent (cond test true replied) hand ≡ true
    by_test true = by_hand hand h
    by_test false = h

-- an effect is replied to
replied_stands : (attached sent replied : Bool) (aim : Aim) (parts : List Part) (effect : Effect) (reply : Replied)
    → stands attached sent replied aim parts (Some (record { effect = effect; reply = None })) ≡ true
    → stands attached sent (cond (answers_farewell (Message.answers (an_effect effect) reply)) true replied) aim parts
    (Some (record { effect = effect; reply = Some reply })) ≡ true
replied_stands attached sent replied aim parts effect reply h =
    by_bools (fits aim parts) (sends_attached attached parts) (cond sent (is_over aim parts) true) (is_to_leave aim)
    (has_part is_leave parts) (is_farewell (an_effect effect)) h
  where
    by_bools : (fit session over leaves more farewell : Bool)
        → cond fit (cond session (cond over (cond leaves (cond attached (more || cond farewell (true || replied) false)
        true) true) false) false) false ≡ true
        → cond fit (cond session (cond over (cond leaves (cond attached (more || cond farewell
        (false || cond farewell true replied) false) true) true) false) false) false ≡ true
    by_bools fit session over leaves more farewell h = grind (arith, h)

-- what is due of event requests doesn't leave the target
pub due_aside : (wishes : Wishes) (effect : Effect) → effect_due wishes ≡ Some effect
    → sends_farewell (Message.sends (an_effect effect)) ≡ false
due_aside wishes effect is = by_change (next_change wishes) is
  where
    by_change : (change : Option WishChange) → option_map effect_of change ≡ Some effect
        → sends_farewell (Message.sends (an_effect effect)) ≡ false
    by_change None is = cc
    by_change (Some (sets wish)) is =
        subst (λ (effect : Effect). sends_farewell (Message.sends (an_effect effect)) ≡ false)
        (let same : Set wish ≡ effect = cc in same) refl
    by_change (Some (clears one)) is =
        subst (λ (effect : Effect). sends_farewell (Message.sends (an_effect effect)) ≡ false)
        (let same : Clear one.wish one.request ≡ effect = cc in same) refl

-- Moves ---------------------------------------------------------------------------------------------------------------

-- a choice other than how to leave the target stands in no item that is to
other_choice : (aim : Aim) (choice : Choice) (responds ends leaves : Bool) → is_leave (Part.Unfolds choice) ≡ false
    → may_stand aim (Part.Unfolds choice) responds ends leaves ≡ not (is_to_leave aim)
other_choice aim choice responds ends leaves is = grind (arith, is)

-- a choice is made
unfolds_stand : (sent replied : Bool) (aim : Aim) (choice : Choice) (rest : List Part) (effect : Option Doing)
    (state : State) (hand : Hand)
    → stands (is_attached state.phase) sent replied aim (Part.Unfolds choice ∷ rest) effect ≡ true
    → stands (is_attached state.phase) sent replied aim (chosen choice state hand ++ rest) effect ≡ true
unfolds_stand sent replied aim choice rest effect state hand h = by_leave (is_leave (Part.Unfolds choice)) refl
  where
    fit_joined : fits aim rest ≡ true
        → may_stand aim (Part.Unfolds choice) (has_response rest) (has_part is_ends rest) (has_part is_leave rest)
        ≡ true → fits aim (chosen choice state hand ++ rest) ≡ true
    fit_joined fit may = fits_joined aim (chosen choice state hand) rest
        (chosen_fits choice state hand aim (has_response rest) (has_part is_ends rest) (has_part is_leave rest) may)
        fit

    by_bools : (attached sends_now leaves_now left : Bool) → cond sends_now attached true ≡ true
        → (attached ≡ true → leaves_now ≡ true)
        → cond (cond sends_now attached true) (cond attached (leaves_now || left) true) false ≡ true
    by_bools attached sends_now leaves_now left there is = grind (arith, there, is)

    by_leave : (leave : Bool) → is_leave (Part.Unfolds choice) ≡ leave
        → stands (is_attached state.phase) sent replied aim (chosen choice state hand ++ rest) effect ≡ true
    by_leave true is =
        let l = leaving_of (is_attached state.phase) sent replied aim (Part.Unfolds choice) rest effect is h in
        rw (
          fit_joined l.fit l.may,
          has_both is_sends (chosen choice state hand) rest,
          none_sends rest l.none_more,
          has_both is_leave (chosen choice state hand) rest,
          l.none_more,
          l.none_sent,
          l.to_leave,
        )
        (by_bools (is_attached state.phase) (has_part is_sends (chosen choice state hand))
        (has_part is_leave (chosen choice state hand)) (left_by effect replied) (chosen_attached choice state hand)
        (chosen_leaves choice state hand is))
    by_leave false is =
        other_stands (is_attached state.phase) sent replied (is_attached state.phase) aim (Part.Unfolds choice)
        (chosen choice state hand ++ rest) rest effect effect
        (other_choice aim choice (has_response rest) (has_part is_ends rest) (has_part is_leave rest) is)
        (λ not_so fit. fit_joined fit (split_fit aim (Part.Unfolds choice) rest
        (fits_of (is_attached state.phase) sent replied aim (Part.Unfolds choice ∷ rest) effect h)).0) h

skipped_stands : (attached sent replied : Bool) {m : Machine} {hand : Hand} {part : Part} (rest : List Part)
    → Skips m hand part → stands attached sent replied (aim_of hand.item) (part ∷ rest) hand.effect ≡ true
    → stands attached sent replied (aim_of hand.item) rest hand.effect ≡ true
skipped_stands attached sent replied {hand = hand} {part} rest (Skips.by_guard is) h =
    tail_stands attached sent replied (aim_of hand.item) part rest hand.effect refl refl h
skipped_stands attached sent replied {hand = hand} {part} rest (Skips.by_wishes is) h =
    tail_stands attached sent replied (aim_of hand.item) part rest hand.effect refl refl h
skipped_stands attached sent replied {hand = hand} {part} rest (Skips.no_request is) h =
    tail_stands attached sent replied (aim_of hand.item) part rest hand.effect refl refl h

-- an item is begun only where no target was left
begun_on : (m : Machine) (item : Item) (sent replied : Bool) → m.hand ≡ None
    → hand_stands (is_attached m.state.phase) sent replied m.hand ≡ true
    → stands (is_attached m.state.phase) sent replied (aim_of item) (parts_of m.state item) None ≡ true
begun_on m item sent replied none h =
    rw (not-true sent (subst (λ (held : Option Hand). hand_stands (is_attached m.state.phase) sent replied held ≡ true)
    none h)) (begun_stands m.state item replied)

-- an item that left the target is never done with, since the session ends with it
dropped_on : (attached sent replied : Bool) (aim : Aim) (parts : List Part) (effect : Option Doing) → parts ≡ []
    → stands attached sent replied aim parts effect ≡ true → not sent ≡ true
dropped_on attached sent replied aim parts effect none h =
    by_bools (is_to_leave aim) (was_left attached replied aim [] effect)
    (subst (λ (parts : List Part). stands attached sent replied aim parts effect ≡ true) none h)
  where
    by_bools : (leaves left : Bool) → cond (cond sent (cond leaves false false) true) left false ≡ true
        → not sent ≡ true
    by_bools leaves left h = grind (arith, h)

-- a part sends the command that leaves the target where the command does
pub deed_farewell : (deed : Deed) → is_farewell (an_effect (Does deed)) ≡ is_sends (Part.Sends deed)
deed_farewell deed = grind arith

-- a command is sent
sent_stands : (attached sent replied leaves : Bool) (aim : Aim) (deed : Deed) (rest : List Part)
    (effect : Option Doing) → is_sends (Part.Sends deed) ≡ leaves
    → stands attached sent replied aim (Part.Sends deed ∷ rest) effect ≡ true
    → stands attached (cond leaves true sent) replied aim rest (Some (record { effect = Does deed; reply = None }))
    ≡ true
sent_stands attached sent replied true aim deed rest effect is h =
    let l = leaving_of attached sent replied aim (Part.Sends deed) rest effect (sends_leave (Part.Sends deed) is) h in
    rw (
      sends_there attached sent replied aim (Part.Sends deed) rest effect is h,
      l.fit,
      none_sends rest l.none_more,
      l.to_leave,
      l.ends,
      l.none_more,
      deed_farewell deed,
      is,
    ) refl
sent_stands attached sent replied false aim deed rest effect is h =
    other_stands attached sent replied attached aim (Part.Sends deed) rest rest effect
    (Some (record { effect = Does deed; reply = None }))
    (other_deed aim deed (has_response rest) (has_part is_ends rest) (has_part is_leave rest) is) (λ not_so fit. fit) h

same_sent : (attached sent replied now leaves : Bool) (aim : Aim) (parts : List Part) (effect : Option Doing)
    → now ≡ leaves → stands attached (cond leaves true sent) replied aim parts effect ≡ true
    → stands attached (cond now true sent) replied aim parts effect ≡ true
same_sent attached sent replied now leaves aim parts effect is h =
    subst (λ (leaves : Bool). stands attached (cond leaves true sent) replied aim parts effect ≡ true) (sym is) h

pub lost_apart : {m : Machine} {message : Message} {late : List TargetCommand} → Loses m message late
    → sends_farewell message ≡ false
lost_apart why = grind (arith, why)

lost_on : (m : Machine) (message : Message) (sent replied : Bool) → sends_farewell message ≡ false
    → hand_stands (is_attached m.state.phase) sent replied m.hand ≡ true
    → hand_stands false (cond (sends_farewell message) true sent) (cond (answers_farewell message) true replied)
    (option_map given_up m.hand) ≡ true
lost_on m message sent replied apart h =
    rw apart (given_stands (is_attached m.state.phase) sent replied (cond (answers_farewell message) true replied)
    m.hand h)

stands_on : (m next : Machine) (said : Option Message) (sent replied : Bool)
    → hand_stands (is_attached m.state.phase) sent replied m.hand ≡ true → Moves m said next
    → hand_stands (is_attached next.state.phase) (with_such sent sends_farewell said)
    (with_such replied answers_farewell said) next.hand ≡ true
stands_on m next said sent replied h (Moves.begins picked free none is) =
    begun_on m picked.item sent replied none h
stands_on m next said sent replied h (Moves.drops {hand} free is none) =
    dropped_on (is_attached m.state.phase) sent replied (aim_of hand.item) hand.parts hand.effect none
    (hand_at (is_attached m.state.phase) sent replied is h)
stands_on m next said sent replied h (Moves.responds {hand} {rest} {outcome = outcome} free at is) =
    rw (same_numbered outcome m.state)
    (tail_stands (is_attached m.state.phase) sent replied (aim_of hand.item) (Part.Responds outcome) rest hand.effect
    refl refl (stands_at (is_attached m.state.phase) sent replied at h))
stands_on m next said sent replied h (Moves.finds {hand} {rest} {lookup} found free at needs done) =
    other_stands (is_attached m.state.phase) sent replied (is_attached m.state.phase) (aim_of hand.item)
    (Part.Looks lookup) (finished lookup (result_of found) m.state ++ rest) rest hand.effect hand.effect refl
    (λ not_so fit. fits_joined (aim_of hand.item) (finished lookup (result_of found) m.state) rest
    (found_fits lookup (result_of found) m.state (aim_of hand.item) (has_response rest) (has_part is_ends rest)
    (has_part is_leave rest) not_so) fit)
    (stands_at (is_attached m.state.phase) sent replied at h)
stands_on m next said sent replied h (Moves.passes_over {rest = rest} free at why) =
    skipped_stands (is_attached m.state.phase) sent replied rest why
    (stands_at (is_attached m.state.phase) sent replied at h)
stands_on m next said sent replied h (Moves.tells {hand} {rest} {event} free at) =
    other_stands (is_attached m.state.phase) sent replied (is_attached (after_event event m.state).phase)
    (aim_of hand.item) (Part.Tells event) rest rest hand.effect hand.effect refl (λ not_so fit. fit)
    (stands_at (is_attached m.state.phase) sent replied at h)
stands_on m next said sent replied h (Moves.sends {hand} {rest} {deed} free at near) =
    same_sent (is_attached m.state.phase) sent replied (is_farewell (an_effect (Does deed)))
    (is_sends (Part.Sends deed)) (aim_of hand.item) rest (Some (record { effect = Does deed; reply = None }))
    (deed_farewell deed)
    (sent_stands (is_attached m.state.phase) sent replied (is_sends (Part.Sends deed)) (aim_of hand.item) deed rest
    hand.effect refl (stands_at (is_attached m.state.phase) sent replied at h))
stands_on m next said sent replied h (Moves.updates {hand} {effect} {rest} free at is near) =
    same_sent (is_attached m.state.phase) sent replied (is_farewell (an_effect effect)) false (aim_of hand.item)
    (Part.Updates ∷ rest) (Some (record { effect = effect; reply = None })) (due_aside m.state.wishes effect is)
    (other_stands (is_attached m.state.phase) sent replied (is_attached m.state.phase) (aim_of hand.item)
    Part.Updates (Part.Updates ∷ rest) rest hand.effect (Some (record { effect = effect; reply = None })) refl
    (λ not_so fit. rw (not_so, fit) refl) (stands_at (is_attached m.state.phase) sent replied at h))
stands_on m next said sent replied h (Moves.notes {hand} {note} {rest} free at) =
    rw (same_noted note m.state)
    (tail_stands (is_attached m.state.phase) sent replied (aim_of hand.item) (Part.Notes note) rest hand.effect
    refl refl (stands_at (is_attached m.state.phase) sent replied at h))
stands_on m next said sent replied h (Moves.unfolds {hand} {choice} {rest} free at) =
    unfolds_stand sent replied (aim_of hand.item) choice rest hand.effect m.state hand
    (stands_at (is_attached m.state.phase) sent replied at h)
stands_on m next said sent replied h (Moves.queues free is) =
    hand_at (is_attached m.state.phase) sent replied is h
stands_on m next said sent replied h (Moves.asks {want = want} free room is are) =
    asked_stands (is_attached m.state.phase) sent replied want m.hand ∙ h
stands_on m next said sent replied h (Moves.answers {question} {replied = reply} is waits good stays) =
    rw (same_replied (a_question question) reply m.state)
    (answered_stands (is_attached m.state.phase) sent replied question reply m.hand ∙ h)
stands_on m next said sent replied h (Moves.replies {effect} {replied = reply} {hand} is flies good stays) =
    rw (same_replied (an_effect effect) reply m.state, is)
    (replied_stands (is_attached m.state.phase) sent replied (aim_of hand.item) hand.parts effect reply
    (subst (λ (doing : Option Doing). stands (is_attached m.state.phase) sent replied (aim_of hand.item) hand.parts
    doing ≡ true) flies (hand_at (is_attached m.state.phase) sent replied is h)))
stands_on m next said sent replied h (Moves.late {command} {replied = reply} before after is good) =
    more_replied (is_attached m.state.phase) sent replied (Message.answers command reply) m.hand h
stands_on m next said sent replied h (Moves.loses {message} late near why) =
    lost_on m message sent replied (lost_apart why) h
stands_on m next said sent replied h _ = h

-- so it stands, by the messages so far
abbrev pub Stands : List Message → Machine → Type 0
Stands messages m =
    hand_stands (is_attached m.state.phase) (has_such sends_farewell messages) (has_such answers_farewell messages)
    m.hand ≡ true

pub standing : {messages : List Message} {m : Machine} → Run messages m → Stands messages m
standing r = by_moves {Holds = Stands} (record {
  starts = refl;
  moves = λ messages m next said h moved.
      rw (such_said sends_farewell messages said, such_said answers_farewell messages said)
      (stands_on m next said (has_such sends_farewell messages) (has_such answers_farewell messages) h moved);
  queues = λ messages m hand queue may h. h;
}) r

-- Before a session is attached ----------------------------------------------------------------------------------------

-- a session that isn't fresh stays so
fresh_on : (m next : Machine) (said : Option Message) → is_fresh m.state.phase ≡ false → Moves m said next
    → is_fresh next.state.phase ≡ false
fresh_on m next said h (Moves.responds {outcome = outcome} free at is) = rw (same_numbered outcome m.state) h
fresh_on m next said h (Moves.tells {event = event} free at) = by_event event m.state h
  where
    by_event : (event : Event) (state : State) → is_fresh state.phase ≡ false
        → is_fresh (after_event event state).phase ≡ false
    by_event event state h = grind (arith, h)
fresh_on m next said h (Moves.notes {note = note} free at) = rw (same_noted note m.state) h
fresh_on m next said h (Moves.answers {question} {replied = reply} is waits good stays) =
    rw (same_replied (a_question question) reply m.state) h
fresh_on m next said h (Moves.replies {effect} {replied = reply} is flies good stays) =
    rw (same_replied (an_effect effect) reply m.state) h
fresh_on m next said h (Moves.loses late near why) = refl
fresh_on m next said h _ = h

attached_fresh : (phase : Phase) → is_attached phase ≡ true → is_fresh phase ≡ false
attached_fresh phase is = grind (arith, is)

-- it isn't where the command goes that leaves the target
sent_fresh : (messages : List Message) (m next : Machine) (said : Option Message) → Stands messages m
    → Moves m said next → with_such false sends_farewell said ≡ true → is_fresh next.state.phase ≡ false
sent_fresh messages m next said h (Moves.sends {hand} {rest} {deed} free at near) is =
    attached_fresh m.state.phase (sends_there (is_attached m.state.phase) (has_such sends_farewell messages)
    (has_such answers_farewell messages) (aim_of hand.item) (Part.Sends deed) rest hand.effect
    (sym (deed_farewell deed) ∙ test_of (is_farewell (an_effect (Does deed))) is)
    (stands_at (is_attached m.state.phase) (has_such sends_farewell messages) (has_such answers_farewell messages)
    at h))
  where
    test_of : (test : Bool) → cond test true false ≡ true → test ≡ true
    test_of test is = grind (arith, is)
sent_fresh messages m next said h (Moves.updates {effect = effect} free at due near) is =
    let no : cond false true false ≡ true = sym (ap (λ (test : Bool). cond test true false) (due_aside m.state.wishes
    effect due)) ∙ is in cc
sent_fresh messages m next said h (Moves.loses late near why) is =
    let no : cond false true false ≡ true = sym (ap (λ (test : Bool). cond test true false) (lost_apart why)) ∙ is in
    cc
sent_fresh messages m next said h _ is = cc

-- before a session is attached, no target was left
pub none_fresh : {messages : List Message} {m : Machine} → Run messages m
    → has_such sends_farewell messages ≡ true → is_fresh m.state.phase ≡ false
none_fresh r = by_runs {Holds = λ (messages : List Message) (m : Machine).
    has_such sends_farewell messages ≡ true → is_fresh m.state.phase ≡ false} (record {
      starts = λ sent. cc;
      moves = λ messages m next said before h moved after sent.
          by_sent next (has_such sends_farewell messages) said (λ was. fresh_on m next said (h was) moved)
          (λ now. sent_fresh messages m next said (standing before) moved now)
          (sym (such_said sends_farewell messages said) ∙ sent);
      queues = λ messages m hand queue before may h. h;
    }) r
  where
    by_sent : (next : Machine) (was : Bool) (said : Option Message) → (was ≡ true → is_fresh next.state.phase ≡ false)
        → (with_such false sends_farewell said ≡ true → is_fresh next.state.phase ≡ false)
        → with_such was sends_farewell said ≡ true → is_fresh next.state.phase ≡ false
    by_sent next true said was now is = was refl
    by_sent next false said was now is = now is

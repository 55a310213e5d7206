-- What each move makes of the commands that are pending.
use Rattle.std.proofs.Common.{◌≡◌, ℕ, ◌<◌, Bool, true, false, cond, not, ◌||◌, List, [], ◌∷◌, ◌++◌, length, Option}
use Rattle.std.proofs.Common.{Some, None, refl, sym, ap, subst, ◌∙◌, append_assoc, append-nil, option_map, nat_le}
use Rattle.std.proofs.Common.{arith}
use Rattle.std.proofs.lemmas.Grind.{flat_map-append}
use Rattle.std.specs.List.{flat_map}
use Rattle.machine_model.specs.Due.{asked_now, clear, greeted_by, greets as greets_way, is_full, load_of, queued}
use Rattle.machine_model.specs.Due.{sized_by, way}
use Rattle.machine_model.specs.Pending.{has_change, is_aside}
use Rattle.machine_model.specs.Plans.{asks_for, question_of}
use Rattle.machine_model.specs.Replying.{ended_with, filled, given_up, hand_replied, is_waiting, pending_in, pending_of}
use Rattle.machine_model.specs.Replying.{unanswered, unanswered_effect, waits_for}
use Rattle.machine_model.specs.Rest.{hand_silent}
use Rattle.machine_model.specs.Runs.{Message}
use Rattle.machine_model.specs.State.{Hand, Machine, SizesRead, has_waiting, is_empty, is_flying, is_gone, is_none}
use Rattle.machine_model.proofs.KeyLaws.{is_one}
use Rattle.machine_steps.specs.Names.{Doing, Does, Effect, Guard, Handshake, IdSizes, Part, Question, Replied, Sent}
use Rattle.machine_steps.specs.Names.{TargetCommand, Want, a_question, an_effect}
use Rattle.machine_steps.proofs.HandshakeLaws.{IsBehind, both_queued, both_there, has_handshake}
use Rattle.machine_steps.proofs.QuietLaws.{IsQuiet, quiet_now}
use Rattle.machine_steps.proofs.RestLaws.{near_asks}
use Rattle.machine_steps.proofs.Stepping.{IsAt, Loses, Moves}

-- What waits in hand --------------------------------------------------------------------------------------------------

-- where the question waits, and what waits once it is replied to
record IsOut (question : Question) (replied : Replied) (asked : List Sent) : Type 0 where
  before : List TargetCommand
  after : List TargetCommand
  was : flat_map unanswered asked ≡ before ++ a_question question ∷ after
  now : flat_map unanswered (filled question replied asked) ≡ before ++ after

out_first : (question : Question) (replied : Replied) (one : Sent) (asked : List Sent) (none same : Bool)
    → is_none one.reply ≡ none → asks_for one question ≡ same
    → (cond none same false ≡ false → IsOut question replied asked) → IsOut question replied (one ∷ asked)
out_first question replied one asked true true no_reply is rest = record {
  before = [];
  after = flat_map unanswered asked;
  was = rw (no_reply, is_one (question_of one.want) question is) refl;
  now = rw (no_reply, is) refl;
}
out_first question replied one asked true false no_reply is rest = let r = rest refl in record {
  before = a_question (question_of one.want) ∷ r.before;
  after = r.after;
  was = rw no_reply (ap (λ (more : List TargetCommand). a_question (question_of one.want) ∷ more) r.was);
  now = rw (no_reply, is) (rw no_reply (ap (λ (more : List TargetCommand). a_question (question_of one.want)
      ∷ more) r.now));
}
out_first question replied one asked false same no_reply is rest = let r = rest refl in record {
  before = r.before;
  after = r.after;
  was = rw no_reply r.was;
  now = rw no_reply (rw no_reply r.now);
}

out_of : (question : Question) (replied : Replied) (asked : List Sent) → is_waiting question asked ≡ true
    → IsOut question replied asked
out_of question replied [] is = cc
out_of question replied (one ∷ asked) is =
    out_first question replied one asked (is_none one.reply) (asks_for one question) refl refl
    (λ other. out_of question replied asked (others (waits_for one question) (is_waiting question asked) is other))
  where
    others : (first rest : Bool) → (first || rest) ≡ true → first ≡ false → rest ≡ true
    others first rest is other = grind (arith, is, other)

pub none_out : (asked : List Sent) → has_waiting asked ≡ false → flat_map unanswered asked ≡ []
none_out [] is = refl
none_out (one ∷ asked) is = grind (arith, is, none_out asked)

pub none_flies : (effect : Option Doing) → is_flying effect ≡ false → unanswered_effect effect ≡ []
none_flies effect is = grind (arith, is)

silent_none : (hand : Hand) → hand_silent (Some hand) ≡ true → pending_in (Some hand) ≡ []
silent_none hand is = rw (none_out hand.asked (grind (arith, is)), none_flies hand.effect (grind (arith, is))) refl

-- only questions stand among what was asked
asked_only : (asked : List Sent) → has_change (flat_map unanswered asked) ≡ false
asked_only [] = refl
asked_only (one ∷ asked) = first_only (is_none one.reply) (asked_only asked)
  where
    first_only : (none : Bool) → has_change (flat_map unanswered asked) ≡ false
        → has_change (cond none (a_question (question_of one.want) ∷ []) [] ++ flat_map unanswered asked) ≡ false
    first_only none is = grind (arith, is)

-- What a move makes of what is pending --------------------------------------------------------------------------------

abbrev pub is_beside : Option Message → Bool
is_beside None = true
is_beside (Some message) = is_aside message

-- these commands are pending behind a move that has this message, where those were
pub data Turns (pending : List TargetCommand) (both sent : Bool) : Option Message → List TargetCommand → Type 0 where
  stays : {said : Option Message} {now : List TargetCommand} → is_beside said ≡ true → now ≡ pending
      → Turns pending both sent said now
  greets : {now : List TargetCommand} → sent ≡ false → now ≡ pending → Turns pending both sent (Some Message.greets) now
  asks : {now : List TargetCommand} (question : Question) → both ≡ true → length pending < 16
      → has_change pending ≡ false → now ≡ pending ++ a_question question ∷ []
      → Turns pending both sent (Some (Message.sends (a_question question))) now
  changes : {now : List TargetCommand} (effect : Effect) → both ≡ true → pending ≡ [] → now ≡ an_effect effect ∷ []
      → Turns pending both sent (Some (Message.sends (an_effect effect))) now
  answers : {now : List TargetCommand} (command : TargetCommand) (replied : Replied) (before after : List TargetCommand)
      → pending ≡ before ++ command ∷ after → now ≡ before ++ after
      → Turns pending both sent (Some (Message.answers command replied)) now

abbrev pub TurnsBy : Machine → Option Message → Machine → Type 0
TurnsBy m said next = Turns (pending_of m) (has_handshake m.state) m.state.greeting_sent said (pending_of next)

-- while the target isn't gone, nothing was given up
abbrev pub NoneLate : Machine → Type 0
NoneLate m = cond (is_gone m.state.phase) true (is_empty m.late) ≡ true

pub none_late : (m : Machine) → NoneLate m → is_gone m.state.phase ≡ false → m.late ≡ []
none_late m h near = by_late (is_gone m.state.phase) m.late h near
  where
    by_late : (gone : Bool) (late : List TargetCommand) → cond gone true (is_empty late) ≡ true → gone ≡ false
        → late ≡ []
    by_late gone late is near = grind (arith, is, near)

pub record Holds (m : Machine) : Type 0 where
  pub quiet : IsQuiet m
  pub late : NoneLate m
  pub behind : IsBehind m

-- the parts of a hand and its queue don't matter
pub same_hand : (m : Machine) (hand : Hand) → m.hand ≡ Some hand → m.late ++ pending_in (Some hand) ≡ pending_of m
same_hand m hand is = ap (λ (held : Option Hand). m.late ++ pending_in held) (sym is)

-- where the part in front is done, nothing of the hand is pending
none_pending : (m : Machine) (hand : Hand) → Holds m → load_of m ≡ clear → m.hand ≡ Some hand
    → pending_in (Some hand) ≡ []
none_pending m hand h free is = silent_none hand (quiet_now m hand h.quiet free is)

changed : (m : Machine) (hand : Hand) (part : Part) (rest : List Part) (effect : Effect) → Holds m → load_of m ≡ clear
    → IsAt m hand part rest → is_gone m.state.phase ≡ false → has_handshake m.state ≡ true
    → Turns (pending_of m) (has_handshake m.state) m.state.greeting_sent (Some (Message.sends (an_effect effect)))
    (m.late ++ (flat_map unanswered hand.asked ++ an_effect effect ∷ []))
changed m hand part rest effect h free at near both =
    let none = none_pending m hand h free at.in_hand in
    let late = none_late m h.late near in
    Turns.changes effect both
    (sym (same_hand m hand at.in_hand) ∙ rw (late, none) refl)
    (rw (
      late,
      none_out hand.asked (silent_asked (is_flying hand.effect) (has_waiting hand.asked)
          (quiet_now m hand h.quiet free at.in_hand)),
    ) refl)
  where
    silent_asked : (flies waits : Bool) → cond flies false (not waits) ≡ true → waits ≡ false
    silent_asked flies waits is = grind (arith, is)

answered_turn : (m : Machine) (hand : Hand) (question : Question) (replied : Replied) → m.hand ≡ Some hand
    → is_waiting question hand.asked ≡ true
    → Turns (pending_of m) (has_handshake m.state) m.state.greeting_sent (Some (Message.answers
    (a_question question) replied))
    (m.late ++ pending_in (option_map (hand_replied (a_question question) replied) m.hand))
answered_turn m hand question replied is waits =
    let o = out_of question replied hand.asked waits in
    let more = unanswered_effect hand.effect in
    Turns.answers (a_question question) replied (m.late ++ o.before) (o.after ++ more)
    (sym (same_hand m hand is) ∙ rw (o.was, append_assoc o.before (a_question question ∷ o.after) more)
    (sym (append_assoc m.late o.before (a_question question ∷ (o.after ++ more)))))
    (rw (is, o.now, append_assoc o.before o.after more) (sym (append_assoc m.late o.before (o.after ++ more))))

replied_turn : (m : Machine) (hand : Hand) (effect : Effect) (replied : Replied) → m.hand ≡ Some hand
    → hand.effect ≡ Some (record { effect = effect; reply = None })
    → Turns (pending_of m) (has_handshake m.state) m.state.greeting_sent (Some (Message.answers
    (an_effect effect) replied))
    (m.late ++ pending_in (option_map (hand_replied (an_effect effect) replied) m.hand))
replied_turn m hand effect replied is flies =
    let asked = flat_map unanswered hand.asked in
    Turns.answers (an_effect effect) replied (m.late ++ asked) []
    (sym (same_hand m hand is) ∙ rw flies (sym (append_assoc m.late asked (an_effect effect ∷ []))))
    (rw is (sym (append_assoc m.late asked [])))

given_none : (hand : Option Hand) → pending_in (option_map given_up hand) ≡ []
given_none hand = grind arith

-- what is left without a reply stays pending
given_turn : (m : Machine) (said : Option Message) (late : List TargetCommand)
    → Turns (pending_of m) (has_handshake m.state) m.state.greeting_sent said (m.late ++ late)
    → TurnsBy m said (ended_with late m)
given_turn m said late t =
    subst (λ (now : List TargetCommand). Turns (pending_of m) (has_handshake m.state) m.state.greeting_sent said now)
    (sym (ap (λ (more : List TargetCommand). (m.late ++ late) ++ more) (given_none m.hand)
    ∙ append-nil (m.late ++ late))) t

asked_turn : (m : Machine) (hand : Hand) (want : Want) (wants : List Want) → Holds m → load_of m ≡ queued
    → is_full false m ≡ false → m.hand ≡ Some hand → hand.queue ≡ want ∷ wants
    → TurnsBy m (Some (Message.sends (a_question (question_of want)))) (asked_now m want)
asked_turn m hand want wants h free room is are =
    let (near, lands) = near_asks m hand free is in
    let late = none_late m h.late near in
    let still = none_flies hand.effect lands in
    let asked = flat_map unanswered hand.asked in
    let was : pending_of m ≡ asked = sym (same_hand m hand is)
    ∙ rw (late, still) (append-nil asked) in
    let question = a_question (question_of want) in
    Turns.asks (question_of want) (both_queued m hand want wants h.behind is are) (few (length (pending_of m)) room)
    (rw was (asked_only hand.asked))
    (rw (is, late, still)
    (append-nil (flat_map unanswered (hand.asked ++ record { want = want; reply = None } ∷ []))
    ∙ flat_map-append unanswered hand.asked (record { want = want; reply = None } ∷ [])
    ∙ ap (λ (pending : List TargetCommand). pending ++ question ∷ []) (sym (append-nil asked))))
  where
    few : (n : ℕ) → nat_le 16 n ≡ false → n < 16
    few n is = grind (arith, is)

pub unsent : (m : Machine) (guard : Guard) → way guard m.state ≡ greets_way → m.state.greeting_sent ≡ false
unsent m Handshake is = by_flags m.state.greeting_sent m.state.greeting_heard is
  where
    by_flags : (sent heard : Bool) → greeted_by sent heard ≡ greets_way → sent ≡ false
    by_flags sent heard is = grind (arith, is)
unsent m IdSizes is = by_sizes m.state.sizes is
  where
    by_sizes : (sizes : Option SizesRead) → sized_by sizes ≡ greets_way → m.state.greeting_sent ≡ false
    by_sizes sizes is = grind (arith, is)

pub turned : (m next : Machine) (said : Option Message) → Holds m → Moves m said next → TurnsBy m said next
turned m next said h (Moves.begins picked free none is) = Turns.stays refl (ap (λ
    (held : Option Hand). m.late ++ pending_in held) (sym none))
turned m next said h (Moves.drops {hand} free is none) =
    Turns.stays refl (rw (sym (none_pending m hand h free is)) (same_hand m hand is))
turned m next said h (Moves.responds {hand} free at is) = Turns.stays refl (same_hand m hand at.in_hand)
turned m next said h (Moves.finds {hand} found free at needs done) = Turns.stays refl (same_hand m hand at.in_hand)
turned m next said h (Moves.passes_over {hand} free at why) = Turns.stays refl (same_hand m hand at.in_hand)
turned m next said h (Moves.tells {hand} free at) = Turns.stays refl (same_hand m hand at.in_hand)
turned m next said h (Moves.sends {hand} {rest} {deed} free at near) =
    changed m hand (Part.Sends deed) rest (Does deed) h free at near
    (both_there m hand (Part.Sends deed) rest h.behind at refl refl)
turned m next said h (Moves.updates {hand} {effect} {rest} free at is near) =
    changed m hand Part.Updates rest effect h free at near (both_there m hand Part.Updates rest h.behind at refl refl)
turned m next said h (Moves.greets {guard = guard} free at is near) = Turns.greets (unsent m guard is) refl
turned m next said h (Moves.notes {hand} free at) = Turns.stays refl (same_hand m hand at.in_hand)
turned m next said h (Moves.unfolds {hand} free at) = Turns.stays refl (same_hand m hand at.in_hand)
turned m next said h (Moves.queues {hand} free is) = Turns.stays refl (same_hand m hand is)
turned m next said h (Moves.asks {hand} {want} {wants} free room is are) = asked_turn m hand want wants h free room is
    are
turned m next said h (Moves.answers {question} {replied} {hand} is waits reply here) =
    answered_turn m hand question replied is waits
turned m next said h (Moves.replies {effect} {replied} {hand} is flies reply here) =
    replied_turn m hand effect replied is flies
turned m next said h (Moves.late {command} {replied} before after is reply) =
    let more = pending_in m.hand in
    Turns.answers command replied before (after ++ more)
    (ap (λ (late : List TargetCommand). late ++ more) is ∙ append_assoc before (command ∷ after) more)
    (append_assoc before after more)
turned m next said h (Moves.loses late near Loses.by_end) =
    given_turn m (Some Message.ends) (pending_in m.hand) (Turns.stays refl refl)
turned m next said h (Moves.loses late near (Loses.by_question {question} {replied} {hand} is waits reply last)) =
    given_turn m (Some (Message.answers (a_question question) replied)) late
    (answered_turn m hand question replied is waits)
turned m next said h (Moves.loses late near (Loses.by_effect {effect} {replied} {hand} is flies reply last)) =
    given_turn m (Some (Message.answers (an_effect effect) replied)) late (replied_turn m hand effect replied is flies)
turned m next said h _ = Turns.stays refl refl

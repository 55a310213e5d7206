-- What is pending was sent and has no reply, and it is at most sixteen commands.
use Rattle.std.proofs.Common.{◌≡◌, ℕ, ◌+◌, ◌≤◌, ◌<◌, Bool, true, false, List, [], ◌∷◌, ◌++◌, length, Option, Some, None}
use Rattle.std.proofs.Common.{refl, sym, ap, subst, ◌∙◌, length-append, arith}
use Rattle.std.proofs.lemmas.Grind.{flat_map-append}
use Rattle.machine_model.specs.Pending.{ArePending, IsInWindow, IsPending, commands_replied, commands_sent, count}
use Rattle.machine_model.specs.Pending.{goes_out, has_such, have_handshake, is_aside, is_greets, replied_by, sent_by}
use Rattle.machine_model.specs.Replying.{pending_of}
use Rattle.machine_model.specs.Runs.{Message, Run}
use Rattle.machine_model.specs.State.{Machine, is_gone}
use Rattle.machine_steps.specs.Names.{TargetCommand, a_question, an_effect}
use Rattle.machine_steps.proofs.HandshakeLaws.{IsGreeted, behind_anew, behind_on, greeted_on, handshake_said}
use Rattle.machine_steps.proofs.HandshakeLaws.{has_handshake}
use Rattle.machine_steps.proofs.QuietLaws.{quiet_on}
use Rattle.machine_steps.proofs.RestLaws.{near_asks, no_late}
use Rattle.machine_steps.proofs.Stepping.{Moves, by_runs, moved, with_said}
use Rattle.machine_steps.proofs.TurnLaws.{Holds, NoneLate, Turns, is_beside, none_late, turned}

-- The laws ------------------------------------------------------------------------------------------------------------

-- the messages say so much of what is pending
pub record Open (messages : List Message) (m : Machine) : Type 0 where
  pub holds : Holds m
  pub greeted : IsGreeted messages m
  pub pending : ArePending messages (pending_of m)
  pub few : length (pending_of m) ≤ 16

abbrev Next : List Message → Option Message → List TargetCommand → Type 0
Next messages said now = ArePending (with_said messages said) now × (length now ≤ 16)

-- as it was
same_next : (messages : List Message) (said : Option Message) (pending : List TargetCommand) → is_beside said ≡ true
    → ArePending messages pending → length pending ≤ 16 → Next messages said pending
same_next messages None pending is h few = (h, few)
same_next messages (Some message) pending is h few = (ArePending.aside message is h, few)

one_more : (n : ℕ) (pending : List TargetCommand) (command : TargetCommand) → length pending < 16
    → length (pending ++ command ∷ []) ≤ 16
one_more n pending command is = let long = length-append pending (command ∷ []) in omega arith

one_less : (before after : List TargetCommand) (command : TargetCommand) → length (before ++ command ∷ after) ≤ 16
    → length (before ++ after) ≤ 16
one_less before after command is =
    let was = length-append before (command ∷ after) in
    let now = length-append before after in omega arith

next_by : (messages : List Message) (pending now : List TargetCommand) (both sent : Bool) (said : Option Message)
    → (both ≡ true → have_handshake messages ≡ true) → has_such is_greets messages ≡ sent → ArePending messages pending
    → length pending ≤ 16 → Turns pending both sent said now → Next messages said now
next_by messages pending now both sent said shakes went h few (Turns.stays is same) =
    subst (λ (now : List TargetCommand). Next messages said now) (sym same) (same_next messages said pending is h few)
next_by messages pending now both sent said shakes went h few (Turns.greets is same) =
    subst (λ (now : List TargetCommand). Next messages (Some Message.greets) now) (sym same)
    (ArePending.greets (went ∙ is) h, few)
next_by messages pending now both sent said shakes went h few (Turns.asks question is room only same) =
    subst (λ (now : List TargetCommand). Next messages said now) (sym same)
    (ArePending.asks question (shakes is) only h, one_more 0 pending (a_question question) room)
next_by messages pending now both sent said shakes went h few (Turns.changes effect is none same) =
    subst (λ (now : List TargetCommand). Next messages said now) (sym same) (
      ArePending.changes effect (shakes is) (subst (λ (pending : List TargetCommand). ArePending messages pending)
          none h),
      omega arith,
    )
next_by messages pending now both sent said shakes went h few (Turns.answers command replied before after was same) =
    subst (λ (now : List TargetCommand). Next messages said now) (sym same) (
      ArePending.answers command replied before after
          (subst (λ (pending : List TargetCommand). ArePending messages pending) was h),
      one_less before after command (subst (λ (pending : List TargetCommand). length pending ≤ 16) was few),
    )

open_on : (messages : List Message) (m next : Machine) (said : Option Message) → NoneLate next → Open messages m
    → Moves m said next → Open (with_said messages said) next
open_on messages m next said late o moved =
    let now = next_by messages (pending_of m) (pending_of next) (has_handshake m.state) m.state.greeting_sent said
    (handshake_said messages m o.greeted) o.greeted.sent o.pending o.few (turned m next said o.holds moved) in
    record {
      holds = record {
        quiet = quiet_on m next said o.holds.quiet moved;
        late = late;
        behind = behind_on m next said o.holds.behind moved;
      };
      greeted = greeted_on messages m next said o.greeted moved;
      pending = now.0;
      few = now.1;
    }

pub all_open : {messages : List Message} {m : Machine} → Run messages m → Open messages m
all_open r =
    by_runs {Holds = Open} (record {
      starts = record {
        holds = record { quiet = refl; late = refl; behind = refl };
        greeted = record { sent = refl; heard = refl };
        pending = ArePending.none;
        few = omega arith;
      };
      moves = λ messages m next said before o moved after. open_on messages m next said (no_late after) o moved;
      queues = λ messages m hand queue before may o. record {
        holds = record { quiet = o.holds.quiet; late = o.holds.late; behind = behind_anew m hand may o.holds.behind };
        greeted = record { sent = o.greeted.sent; heard = o.greeted.heard };
        pending = o.pending;
        few = o.few;
      };
    }) r

-- counts
count_joined : (test : TargetCommand → Bool) (some others : List TargetCommand)
    → count test (some ++ others) ≡ count test some + count test others
count_joined test [] others = omega arith
count_joined test (command ∷ some) others = let more = count_joined test some others in omega arith

abbrev IsCounted : (TargetCommand → Bool) → List Message → List TargetCommand → Type 0
IsCounted test messages pending =
    count test pending + count test (commands_replied messages) ≡ count test (commands_sent messages)

counted_more : (test : TargetCommand → Bool) (messages : List Message) (message : Message)
    (pending now : List TargetCommand) → IsCounted test messages pending
    → count test now + count test (replied_by message ++ []) ≡ count test pending + count test (sent_by message ++ [])
    → IsCounted test (messages ++ message ∷ []) now
counted_more test messages message pending now h is =
    rw (
      flat_map-append replied_by messages (message ∷ []),
      flat_map-append sent_by messages (message ∷ []),
      count_joined test (commands_replied messages) (replied_by message ++ []),
      count_joined test (commands_sent messages) (sent_by message ++ []),
    ) (omega arith)

counted : (test : TargetCommand → Bool) {messages : List Message} {pending : List TargetCommand}
    → ArePending messages pending → IsCounted test messages pending
counted test ArePending.none = refl
counted test (ArePending.aside {messages} {pending} message is h) =
    counted_more test messages message pending pending (counted test h) (no_command message is)
  where
    no_command : (message : Message) → is_aside message ≡ true
        → count test pending + count test (replied_by message ++ [])
        ≡ count test pending + count test (sent_by message ++ [])
    no_command message is = grind (arith, is)
counted test (ArePending.greets {messages} {pending} is h) =
    counted_more test messages Message.greets pending pending (counted test h) refl
counted test (ArePending.asks {messages} {pending} question shakes only h) =
    counted_more test messages (Message.sends (a_question question)) pending (pending ++ a_question question ∷ [])
    (counted test h) (rw (count_joined test pending (a_question question ∷ [])) (omega arith))
counted test (ArePending.changes {messages} effect shakes h) =
    counted_more test messages (Message.sends (an_effect effect)) [] (an_effect effect
    ∷ []) (counted test h) (omega arith)
counted test (ArePending.answers {messages} command replied before after h) =
    counted_more test messages (Message.answers command replied) (before ++ command ∷ after) (before ++ after)
    (counted test h) (rw (count_joined test before (command ∷ after), count_joined test before after) (omega arith))

-- nothing goes to a target that is gone
none_goes : (m next : Machine) (message : Message) (said : Option Message) → said ≡ Some message → Moves m said next
    → is_gone m.state.phase ≡ true → goes_out message ≡ false
none_goes m next message said is (Moves.sends free at near) gone = cc
none_goes m next message said is (Moves.updates free at due near) gone = cc
none_goes m next message said is (Moves.greets free at by near) gone = cc
none_goes m next message said is (Moves.asks {hand} free room held are) gone =
    let near = (near_asks m hand free held).0 in cc
none_goes m next message said is (Moves.loses late near why) gone = cc
none_goes m next message said is _ gone = grind (arith, is)

pub pending_is : (messages : List Message) (m : Machine) → Run messages m → IsPending messages m
pending_is messages m r = let o = all_open r in record {
  pending = o.pending;
  counted = λ test. counted test o.pending;
  in_hand = λ near. none_late m o.holds.late near;
  gone = λ message next allows gone. none_goes m next message (Some message) refl (moved allows) gone;
}

room_for : (m next : Machine) (command : TargetCommand) (said : Option Message) (now : List TargetCommand)
    (both sent : Bool)
    → said ≡ Some (Message.sends command) → Turns (pending_of m) both sent said now → length (pending_of m) < 16
room_for m next command said now both sent is (Turns.stays beside same) =
    let other : true ≡ false = sym beside ∙ ap is_beside is in cc
room_for m next command said now both sent is (Turns.asks question shakes room only same) = room
room_for m next command said now both sent is (Turns.changes effect shakes none same) = rw none (omega arith)
room_for m next command said now both sent is _ = cc

pub in_window : (messages : List Message) (m : Machine) → Run messages m → IsInWindow m
in_window messages m r = let o = all_open r in record {
  few = o.few;
  room = λ command next allows. room_for m next command (Some (Message.sends command)) (pending_of next)
      (has_handshake m.state) m.state.greeting_sent refl
      (turned m next (Some (Message.sends command)) o.holds (moved allows));
}

-- Each step is one by a rule.
use Rattle.std.proofs.Common.{◌≡◌, ℕ, ◌+◌, ◌&&◌, ◌==◌, ◌||◌, Bool, true, false, not, cond, List, [], ◌∷◌, ◌++◌}
use Rattle.std.proofs.Common.{Option, Some, None, Result, Ok, Err, slice_get, refl, sym}
use Rattle.std.specs.Prelude.{position}
use Rattle.jdwp_commands.specs.Answers.{answer_at}
use Rattle.jdwp_commands.specs.declared.answer.Answer.TheVariants as answers
use Rattle.jdwp_commands.specs.declared.question.Question.TheVariants as questions
use Rattle.jdwp_packets.specs.Packets.{Packet, command_packet, packet_bytes, reply_packet}
use Rattle.jdwp_values.specs.Sizes.{is_no_size}
use Rattle.target_bodies.specs.Hearing.{answer_fault, header}
use Rattle.wire_core.specs.Streams.{Front}
use Rattle.tap_model.specs.Names.{a_question, an_error, Answer, Ask, BadTarget, BodyFault, Client, Debugger}
use Rattle.tap_model.specs.Names.{DebuggerCommand, Flood, IdSizes, of_question, Owner, PacketFault, Sizes}
use Rattle.tap_model.specs.Names.{Target, TargetFault, TargetRefused}
use Rattle.tap_model.specs.Rules.{AllSaid, AtDebugger, AtTarget, HasGreeted, HasReply, IsDue, IsEnding, IsHeard}
use Rattle.tap_model.specs.Rules.{IsJoined, IsLearnt, IsStep, NoPacket, NoQuestion, Rule}
use Rattle.tap_model.specs.States.{TapState, greets, hands, id_taken, past_debugger, past_target, pending_under}
use Rattle.tap_model.specs.States.{with_reached, with_settled}
use Rattle.tap_model.specs.Steps.{Step, answer_read, asked_answer, asked_due, at_debugger, at_target}
use Rattle.tap_model.specs.Steps.{body_ending, can_ask, can_keep, command_due, commanded, commands, due, eights}
use Rattle.tap_model.specs.Steps.{first_step, front_of, has_room, left_due, packet_due, passed_on}
use Rattle.tap_model.specs.Steps.{question_command, replied, reply_to, serving, sizes_checked, sizes_command}
use Rattle.tap_model.specs.Steps.{sizes_read}
use Rattle.tap_model.specs.Steps.{sizes_said, step, tells, told}

-- what holds of both of two steps holds of the one that is chosen
pub by_if : (P : Step → Type 0) (b : Bool) (x y : Step) → (b ≡ true → P x) → (b ≡ false → P y) → P (cond b x y)
by_if P true x y first other = first refl
by_if P false x y first other = other refl

-- what two tests say together
pub both : (a b : Bool) → a && b ≡ true → (a ≡ true) × (b ≡ true)
both true b h = (refl, h)
both false b h = absurd cc

pub not_true : (b : Bool) → not b ≡ true → b ≡ false
not_true true h = sym h
not_true false h = refl

pub not_false : (b : Bool) → not b ≡ false → b ≡ true
not_false true h = refl
not_false false h = sym h

module _ (asks : List Ask) (s : TapState) where
  -- What is due -------------------------------------------------------------------------------------------------------

  -- a step that waits by one rule waits by another
  pub rested : (A B : Type 0) (v : Step) → (A → B) → Rule asks s A v → Rule asks s B v
  rested A B (Step.says what) f h = h
  rested A B (Step.hears message s') f h = h
  rested A B (Step.learns p numbers s') f h = h
  rested A B (Step.ends ending) f h = h
  rested A B Step.waits f h = f h

  module _ (joined : IsJoined s) where
    asked_by : (sizes : IdSizes) (n : ℕ) (left : List ℕ) (found : Option Ask) → s.commands ≡ [] → NoPacket s
        → s.asking.sizes ≡ Some sizes → s.asking.left ≡ n ∷ left → slice_get asks n ≡ found
        → Rule asks s (NoQuestion asks s) (asked_due s.sent sizes n found)
    asked_by sizes n left None none packet known first is = NoQuestion.not_there first is
    asked_by sizes n left (Some ask) none packet known first is = by_if (Rule asks s (NoQuestion asks s))
        (can_ask s.sent) (Step.says (question_command s.sent sizes n ask.question)) Step.waits
        (λ can. IsDue.asks_question joined none packet known first is can) (λ can. NoQuestion.has_to_wait can)

    left_by_sizes : (sizes : Option IdSizes) (left : List ℕ) → s.commands ≡ [] → NoPacket s
        → s.asking.sizes ≡ sizes → s.asking.left ≡ left
        → Rule asks s (NoQuestion asks s) (left_due asks s.sent sizes left)
    left_by_sizes sizes [] none packet known is = NoQuestion.none_left is
    left_by_sizes None (n ∷ left) none packet known is = NoQuestion.no_sizes known
    left_by_sizes (Some sizes) (n ∷ left) none packet known is =
        asked_by sizes n left (slice_get asks n) none packet known is refl

    left_rule : s.commands ≡ [] → NoPacket s
        → Rule asks s (AllSaid asks s) (left_due asks s.sent s.asking.sizes s.asking.left)
    left_rule none packet = rested (NoQuestion asks s) (AllSaid asks s)
        (left_due asks s.sent s.asking.sizes s.asking.left)
        (λ question. AllSaid.all_sent joined none packet question)
        (left_by_sizes s.asking.sizes s.asking.left none packet refl refl)

    packets_by : (packets : List (List ℕ)) → s.commands ≡ [] → s.packets ≡ packets
        → Rule asks s (AllSaid asks s) (packet_due asks s packets)
    packets_by [] none is = left_rule none (NoPacket.no_packet is)
    packets_by (bytes ∷ others) none is = by_if (Rule asks s (AllSaid asks s)) s.greeted.debugger
        (Step.says (hands bytes)) (left_due asks s.sent s.asking.sizes s.asking.left)
        (λ debugger. IsDue.hands_on joined none debugger is)
        (λ debugger. left_rule none (NoPacket.not_greeted debugger))

    commands_by : (waiting : List DebuggerCommand) → s.commands ≡ waiting
        → Rule asks s (AllSaid asks s) (command_due asks s waiting)
    commands_by [] is = packets_by s.packets is refl
    commands_by (command ∷ others) is = by_if (Rule asks s (AllSaid asks s)) (id_taken s.sent)
        (Step.ends Flood) (Step.says (passed_on s.sent command))
        (λ taken. IsEnding.id_is_taken joined is taken) (λ free. IsDue.passes joined is free)

  abbrev sized_due : Step
  sized_due = cond (not s.asking.asked_sizes) (Step.says (sizes_command s.sent)) (command_due asks s s.commands)

  greeted_by : HasGreeted s → Rule asks s (AllSaid asks s) (cond (not s.target.greeted) Step.waits sized_due)
  greeted_by greeted = by_if (Rule asks s (AllSaid asks s)) (not s.target.greeted) Step.waits sized_due
      (λ none. AllSaid.alone greeted (not_true s.target.greeted none))
      (λ some. by_if (Rule asks s (AllSaid asks s)) (not s.asking.asked_sizes) (Step.says (sizes_command s.sent))
      (command_due asks s s.commands)
      (λ none. IsDue.asks_sizes greeted (not_false s.target.greeted some) (not_true s.asking.asked_sizes none))
      (λ asked. commands_by (record {
        greeted = greeted;
        target = not_false s.target.greeted some;
        asked_sizes = not_false s.asking.asked_sizes asked;
      }) s.commands refl))

  pub due_by : Rule asks s (AllSaid asks s) (due asks s)
  due_by = by_if (Rule asks s (AllSaid asks s)) (not s.greeted.target) (Step.says (greets Target))
      (cond ((s.debugger.greeted && s.target.greeted) && not s.greeted.debugger) (Step.says (greets Client))
      (cond (not s.target.greeted) Step.waits sized_due))
      (λ none. IsDue.target_greeted (not_true s.greeted.target none))
      (λ some. by_if (Rule asks s (AllSaid asks s))
      ((s.debugger.greeted && s.target.greeted) && not s.greeted.debugger) (Step.says (greets Client))
      (cond (not s.target.greeted) Step.waits sized_due)
      (λ all. IsDue.debugger_greeted (not_false s.greeted.target some) all)
      (λ not_all. greeted_by (record { target = not_false s.greeted.target some; debugger = not_all })))

  -- What came ---------------------------------------------------------------------------------------------------------

  commanded_by : (packet : Packet) (n : ℕ) → AtDebugger asks s (Front.whole packet n)
      → Rule asks s ⊥ (commanded packet s.debugger.stream.at (past_debugger n s))
  commanded_by (command_packet id set number body) n is = by_if (Rule asks s ⊥) (can_keep s)
      (Step.hears (commands (record { id = id; set = set; command = number; body = body }))
      (record (past_debugger n s) {
        commands = s.commands ++ record { id = id; set = set; command = number; body = body } ∷ [];
      })) (Step.ends Flood)
      (λ can. IsHeard.commanded is can) (λ cannot. IsEnding.too_many_commands is cannot)
  commanded_by (reply_packet id error body) n is = IsEnding.no_command is

  debugger_by : (front : Front Packet PacketFault) → AtDebugger asks s front
      → Rule asks s (AtDebugger asks s Front.waits) (at_debugger front s)
  debugger_by Front.waits is = is
  debugger_by (Front.whole packet n) is = rested ⊥ (AtDebugger asks s Front.waits)
      (commanded packet s.debugger.stream.at (past_debugger n s)) (λ no. absurd no) (commanded_by packet n is)
  debugger_by (Front.faulty fault distance) is = IsEnding.bad_client is

  module _ (id error n : ℕ) (body : List ℕ) (is : AtTarget asks s (Front.whole (reply_packet id error body) n)) where
    abbrev packet : Packet
    packet = reply_packet id error body

    abbrev here : TapState
    here = with_settled id (past_target n s)

    reply_is : (owner : Option Owner) → pending_under id s.sent.pending ≡ owner
        → HasReply asks s id error body n owner
    reply_is owner pending = record { at_target = is; pending = pending }

    -- a fault that is none of memory has a place
    ending_by : (found : Option (TargetFault × ℕ)) → ((fault : TargetFault) (place : ℕ)
        → found ≡ Some (fault, place) → IsEnding asks s (BadTarget fault (s.target.stream.at + header + place) 0))
        → IsEnding asks s (body_ending s.target.stream.at found)
    ending_by None bad = IsEnding.no_memory
    ending_by (Some (fault, place)) bad = bad fault place refl

    module _ (reply : HasReply asks s id error body n (Some Sizes)) (none : (error == 0) ≡ true) where
      checked_by : (field method object class frame : ℕ) (found : Option ℕ)
          → answer_at eights (a_question questions.IdSizes) body
          ≡ Ok (answers.IdSizes field method object class frame)
          → position is_no_size (field ∷ method ∷ object ∷ class ∷ frame ∷ []) ≡ found
          → Rule asks s ⊥ (sizes_checked packet s.target.stream.at
          (field ∷ method ∷ object ∷ class ∷ frame ∷ []) found here)
      checked_by field method object class frame None reads good = IsLearnt.sized reply none reads good
      checked_by field method object class frame (Some which) reads bad = IsEnding.bad_sizes reply none reads bad

      said_by : (answer : Answer) → answer_at eights (a_question questions.IdSizes) body ≡ Ok answer
          → Rule asks s ⊥ (sizes_said packet s.target.stream.at answer here)
      said_by (answers.IdSizes field method object class frame) reads = checked_by field method object class frame
          (position is_no_size (field ∷ method ∷ object ∷ class ∷ frame ∷ [])) reads refl
      said_by _ reads = IsEnding.no_memory

      sizes_by : (read : Result Answer BodyFault) → answer_at eights (a_question questions.IdSizes) body ≡ read
          → Rule asks s ⊥ (sizes_read packet s.target.stream.at read here)
      sizes_by (Ok answer) reads = said_by answer reads
      sizes_by (Err found) reads = ending_by (answer_fault found)
          (λ fault place at. IsEnding.bad_sizes_body reply none reads at)

    module _ (question : ℕ) (reply : HasReply asks s id error body n (Some (of_question question)))
        (none : (error == 0) ≡ true) where
      answer_by : (ask : Ask) (read : Result Answer BodyFault) → slice_get asks question ≡ Some ask
          → answer_at (serving s.asking.sizes) (a_question ask.question) body ≡ read
          → Rule asks s ⊥ (answer_read packet s.target.stream.at question read here)
      answer_by ask (Ok answer) there reads = IsHeard.answered reply none there reads
      answer_by ask (Err found) there reads = ending_by (answer_fault found)
          (λ fault place at. IsEnding.bad_answer reply none there reads at)

      asked_for : (found : Option Ask) → slice_get asks question ≡ found
          → Rule asks s ⊥ (asked_answer packet s.target.stream.at question body found here)
      asked_for None there = IsEnding.no_memory
      asked_for (Some ask) there =
          answer_by ask (answer_at (serving s.asking.sizes) (a_question ask.question) body) there refl

    replied_by : (owner : Owner) → pending_under id s.sent.pending ≡ Some owner
        → Rule asks s ⊥ (replied asks packet s.target.stream.at error body owner here)
    replied_by (Debugger own leaves) pending = by_if (Rule asks s ⊥) (has_room s)
        (Step.hears (tells packet) (record here {
          left_by = s.left_by || (leaves && (error == 0));
          packets = s.packets ++ packet_bytes (reply_packet own error body) ∷ [];
        })) (Step.ends Flood)
        (λ room. IsHeard.replied (reply_is _ pending) room)
        (λ full. IsEnding.too_many_replies (reply_is _ pending) full)
    replied_by Sizes pending = by_if (Rule asks s ⊥) (error == 0)
        (sizes_read packet s.target.stream.at (answer_at eights (a_question questions.IdSizes) body) here)
        (Step.ends (TargetRefused 1 7 error))
        (λ none. sizes_by (reply_is _ pending) none (answer_at eights (a_question questions.IdSizes) body) refl)
        (λ some. IsEnding.sizes_refused (reply_is _ pending) some)
    replied_by (of_question question) pending = by_if (Rule asks s ⊥) (error == 0)
        (asked_answer packet s.target.stream.at question body (slice_get asks question) here)
        (Step.hears (tells packet) (with_reached question (an_error error) here))
        (λ none. asked_for question (reply_is _ pending) none (slice_get asks question) refl)
        (λ some. IsHeard.refused (reply_is _ pending) some)

    reply_by : (owner : Option Owner) → pending_under id s.sent.pending ≡ owner
        → Rule asks s ⊥ (reply_to asks packet s.target.stream.at id error body owner (past_target n s))
    reply_by None pending = IsEnding.unknown_reply (reply_is None pending)
    reply_by (Some owner) pending = replied_by owner pending

  told_by : (packet : Packet) (n : ℕ) → AtTarget asks s (Front.whole packet n)
      → Rule asks s ⊥ (told asks packet s.target.stream.at (past_target n s))
  told_by (command_packet id set number body) n is = by_if (Rule asks s ⊥) (has_room s)
      (Step.hears (tells (command_packet id set number body)) (record (past_target n s) {
        packets = s.packets ++ packet_bytes (command_packet id set number body) ∷ [];
      })) (Step.ends Flood)
      (λ room. IsHeard.told is room) (λ full. IsEnding.too_many_events is full)
  told_by (reply_packet id error body) n is =
      reply_by id error n body is (pending_under id s.sent.pending) refl

  target_by : (front : Front Packet PacketFault) → AtTarget asks s front
      → Rule asks s (AtTarget asks s Front.waits) (at_target asks front s)
  target_by Front.waits is = is
  target_by (Front.whole packet n) is = rested ⊥ (AtTarget asks s Front.waits)
      (told asks packet s.target.stream.at (past_target n s)) (λ no. absurd no) (told_by packet n is)
  target_by (Front.faulty fault distance) is = IsEnding.bad_packet is

  -- The next step -----------------------------------------------------------------------------------------------------

  first_by : (A B : Type 0) (v w : Step) → Rule asks s A v → (A → Rule asks s B w) → Rule asks s B (first_step v w)
  first_by A B (Step.says what) w h k = h
  first_by A B (Step.hears message s') w h k = h
  first_by A B (Step.learns p numbers s') w h k = h
  first_by A B (Step.ends ending) w h k = h
  first_by A B Step.waits w h k = k h

  pub step_by : IsStep asks s (step asks s)
  step_by = first_by (AllSaid asks s) (AtTarget asks s Front.waits) (due asks s)
      (first_step (at_debugger (front_of s.debugger) s) (at_target asks (front_of s.target) s)) due_by
      (λ all. first_by (AtDebugger asks s Front.waits) (AtTarget asks s Front.waits)
      (at_debugger (front_of s.debugger) s) (at_target asks (front_of s.target) s)
      (debugger_by (front_of s.debugger) (record { all_said = all; here = refl }))
      (λ debugger. target_by (front_of s.target) (record { debugger = debugger; here = refl })))

-- The steps of a tap as rules, each with what it stands on.
use Rattle.std.specs.Prelude.{ℕ, ◌≡◌, ◌+◌, ◌*◌, ◌&&◌, ◌==◌, ◌||◌, Bool, true, false, not, List, [], ◌∷◌, ◌++◌}
use Rattle.std.specs.Prelude.{Option, Some, None, Ok, Err, position, slice_get}
use Rattle.jdwp_commands.specs.Answers.{answer_at}
use Rattle.jdwp_commands.specs.declared.answer.Answer.TheVariants as answers
use Rattle.jdwp_commands.specs.declared.question.Question.TheVariants as questions
use Rattle.jdwp_packets.specs.Packets.{Packet, command_packet, packet_bytes, reply_packet}
use Rattle.jdwp_values.specs.Sizes.{is_no_size}
use Rattle.target_bodies.specs.Hearing.{answer_fault, header}
use Rattle.wire_core.specs.Streams.{Front}
use Rattle.tap_model.specs.Names.{a_question, an_answer, an_error, Answer, Ask, BadClient, BadSizes, BadTarget}
use Rattle.tap_model.specs.Names.{BodyFault, Client, Debugger, DebuggerCommand, Flood, IdSizes, misframed, mispacked}
use Rattle.tap_model.specs.Names.{NoMemory, NotACommand, of_question, Owner, PacketFault, Sizes, Target, TapEnding}
use Rattle.tap_model.specs.Names.{TargetFault, TargetRefused, UnknownReply}
use Rattle.tap_model.specs.States.{Said, TapState, greets, hands, id_taken, past_debugger, past_target, pending_under}
use Rattle.tap_model.specs.States.{with_reached, with_settled}
use Rattle.tap_model.specs.Steps.{Message, Step, can_ask, can_keep, commands, eights, front_of, has_room}
use Rattle.tap_model.specs.Steps.{passed_on, question_command, serving, sizes_command, tells}

-- What was said already ----------------------------------------------------------------------------------------------

-- the target was greeted, and so was the debugger where both have greeted
pub record HasGreeted (s : TapState) : Type 0 where
  pub target : s.greeted.target ≡ true
  pub debugger : (s.debugger.greeted && s.target.greeted) && not s.greeted.debugger ≡ false

-- and the target has greeted, and was asked for its sizes of ids
pub record IsJoined (s : TapState) : Type 0 where
  pub greeted : HasGreeted s
  pub target : s.target.greeted ≡ true
  pub asked_sizes : s.asking.asked_sizes ≡ true

-- no packet can be handed to the debugger
pub data NoPacket (s : TapState) : Type 0 where
  no_packet : s.packets ≡ [] → NoPacket s
  not_greeted : s.greeted.debugger ≡ false → NoPacket s

-- No question can be sent: none is left; the sizes of ids aren't known; or the next one has to wait. There is one of
-- each number.
pub data NoQuestion (asks : List Ask) (s : TapState) : Type 0 where
  none_left : s.asking.left ≡ [] → NoQuestion asks s
  no_sizes : s.asking.sizes ≡ None → NoQuestion asks s
  has_to_wait : can_ask s.sent ≡ false → NoQuestion asks s
  not_there : {n : ℕ} {left : List ℕ} → s.asking.left ≡ n ∷ left → slice_get asks n ≡ None → NoQuestion asks s

-- Nothing is due: the target hasn't greeted; or all was sent that can be.
pub data AllSaid (asks : List Ask) (s : TapState) : Type 0 where
  alone : HasGreeted s → s.target.greeted ≡ false → AllSaid asks s
  all_sent : IsJoined s → s.commands ≡ [] → NoPacket s → NoQuestion asks s → AllSaid asks s

-- Nothing is due, and this stands at the front of what the debugger sent.
pub record AtDebugger (asks : List Ask) (s : TapState) (front : Front Packet PacketFault) : Type 0 where
  pub all_said : AllSaid asks s
  pub here : front_of s.debugger ≡ front

-- Nothing is due, nothing stands there, and this at the front of what the target sent.
pub record AtTarget (asks : List Ask) (s : TapState) (front : Front Packet PacketFault) : Type 0 where
  pub debugger : AtDebugger asks s Front.waits
  pub here : front_of s.target ≡ front

-- This reply is there, to a command that is pending, or to none.
pub record HasReply (asks : List Ask) (s : TapState) (id error : ℕ) (body : List ℕ) (n : ℕ) (owner : Option Owner)
    : Type 0 where
  pub at_target : AtTarget asks s (Front.whole (reply_packet id error body) n)
  pub pending : pending_under id s.sent.pending ≡ owner

-- Steps ---------------------------------------------------------------------------------------------------------------

-- This is due: a handshake that wasn't sent, to the target at once, and to the debugger once both have greeted; and,
-- once the target has, IDSizes; then the commands of the debugger's, then the packets for it, and then the questions.
pub data IsDue (asks : List Ask) (s : TapState) : Said → Type 0 where
  target_greeted : s.greeted.target ≡ false → IsDue asks s (greets Target)
  debugger_greeted : s.greeted.target ≡ true
      → (s.debugger.greeted && s.target.greeted) && not s.greeted.debugger ≡ true → IsDue asks s (greets Client)
  asks_sizes : HasGreeted s → s.target.greeted ≡ true → s.asking.asked_sizes ≡ false
      → IsDue asks s (sizes_command s.sent)
  passes : {command : DebuggerCommand} {others : List DebuggerCommand} → IsJoined s
      → s.commands ≡ command ∷ others → id_taken s.sent ≡ false → IsDue asks s (passed_on s.sent command)
  hands_on : {bytes : List ℕ} {others : List (List ℕ)} → IsJoined s → s.commands ≡ []
      → s.greeted.debugger ≡ true → s.packets ≡ bytes ∷ others → IsDue asks s (hands bytes)
  asks_question : {sizes : IdSizes} {n : ℕ} {left : List ℕ} {ask : Ask} → IsJoined s → s.commands ≡ []
      → NoPacket s → s.asking.sizes ≡ Some sizes → s.asking.left ≡ n ∷ left → slice_get asks n ≡ Some ask
      → can_ask s.sent ≡ true → IsDue asks s (question_command s.sent sizes n ask.question)

-- This is heard: a command of the debugger's, a command of the target's, or a reply to one that is pending, which is
-- the debugger's or a question.
pub data IsHeard (asks : List Ask) (s : TapState) : Message → TapState → Type 0 where
  commanded : {id set number n : ℕ} {body : List ℕ}
      → AtDebugger asks s (Front.whole (command_packet id set number body) n) → can_keep s ≡ true
      → IsHeard asks s (commands (record { id = id; set = set; command = number; body = body }))
      (record (past_debugger n s) {
        commands = s.commands ++ record { id = id; set = set; command = number; body = body } ∷ [];
      })
  told : {id set number n : ℕ} {body : List ℕ}
      → AtTarget asks s (Front.whole (command_packet id set number body) n) → has_room s ≡ true
      → IsHeard asks s (tells (command_packet id set number body)) (record (past_target n s) {
        packets = s.packets ++ packet_bytes (command_packet id set number body) ∷ [];
      })
  replied : {id error n own : ℕ} {body : List ℕ} {leaves : Bool}
      → HasReply asks s id error body n (Some (Debugger own leaves)) → has_room s ≡ true
      → IsHeard asks s (tells (reply_packet id error body)) (record (with_settled id (past_target n s)) {
        left_by = s.left_by || (leaves && (error == 0));
        packets = s.packets ++ packet_bytes (reply_packet own error body) ∷ [];
      })
  answered : {id error n question : ℕ} {body : List ℕ} {ask : Ask} {answer : Answer}
      → HasReply asks s id error body n (Some (of_question question)) → (error == 0) ≡ true
      → slice_get asks question ≡ Some ask
      → answer_at (serving s.asking.sizes) (a_question ask.question) body ≡ Ok answer
      → IsHeard asks s (tells (reply_packet id error body))
      (with_reached question (an_answer answer) (with_settled id (past_target n s)))
  refused : {id error n question : ℕ} {body : List ℕ}
      → HasReply asks s id error body n (Some (of_question question)) → (error == 0) ≡ false
      → IsHeard asks s (tells (reply_packet id error body))
      (with_reached question (an_error error) (with_settled id (past_target n s)))

-- These five sizes of ids are learnt, and the tap stands here but for them: by the answer to IDSizes, which is pending.
pub data IsLearnt (asks : List Ask) (s : TapState) : Packet → List ℕ → TapState → Type 0 where
  sized : {id error n : ℕ} {body : List ℕ} {field method object class frame : ℕ}
      → HasReply asks s id error body n (Some Sizes) → (error == 0) ≡ true
      → answer_at eights (a_question questions.IdSizes) body ≡ Ok (answers.IdSizes field method object class frame)
      → position is_no_size (field ∷ method ∷ object ∷ class ∷ frame ∷ []) ≡ None
      → IsLearnt asks s (reply_packet id error body) (field ∷ method ∷ object ∷ class ∷ frame ∷ [])
      (with_settled id (past_target n s))

-- What came, or is due, ends the tap so, at this place of a side's stream: bytes that are no handshake or no packet; a
-- reply of the debugger's; a reply with an id under which nothing is pending; an answer to IDSizes or to a question
-- whose body has a fault, or whose sizes of ids are none; an error to IDSizes; a command of the debugger's whose id
-- would be that of a pending one, or that can't be kept; or a packet for the debugger that can't. No other answer is
-- one to IDSizes, and a question that is pending is there, so that what came never ends the tap for want of memory.
pub data IsEnding (asks : List Ask) (s : TapState) : TapEnding → Type 0 where
  bad_client : {fault : PacketFault} {distance : ℕ} → AtDebugger asks s (Front.faulty fault distance)
      → IsEnding asks s (BadClient (misframed fault) (s.debugger.stream.at + distance))
  no_command : {id error n : ℕ} {body : List ℕ} → AtDebugger asks s (Front.whole (reply_packet id error body) n)
      → IsEnding asks s (BadClient NotACommand s.debugger.stream.at)
  bad_packet : {fault : PacketFault} {distance : ℕ} → AtTarget asks s (Front.faulty fault distance)
      → IsEnding asks s (BadTarget (mispacked fault) (s.target.stream.at + distance) 0)
  unknown_reply : {id error n : ℕ} {body : List ℕ} → HasReply asks s id error body n None
      → IsEnding asks s (BadTarget UnknownReply s.target.stream.at id)
  bad_sizes_body : {id error n place : ℕ} {body : List ℕ} {found : BodyFault} {fault : TargetFault}
      → HasReply asks s id error body n (Some Sizes) → (error == 0) ≡ true
      → answer_at eights (a_question questions.IdSizes) body ≡ Err found
      → answer_fault found ≡ Some (fault, place)
      → IsEnding asks s (BadTarget fault (s.target.stream.at + header + place) 0)
  bad_sizes : {id error n which : ℕ} {body : List ℕ} {field method object class frame : ℕ}
      → HasReply asks s id error body n (Some Sizes) → (error == 0) ≡ true
      → answer_at eights (a_question questions.IdSizes) body ≡ Ok (answers.IdSizes field method object class frame)
      → position is_no_size (field ∷ method ∷ object ∷ class ∷ frame ∷ []) ≡ Some which
      → IsEnding asks s (BadTarget BadSizes (s.target.stream.at + header + 4 * which) 0)
  sizes_refused : {id error n : ℕ} {body : List ℕ} → HasReply asks s id error body n (Some Sizes)
      → (error == 0) ≡ false → IsEnding asks s (TargetRefused 1 7 error)
  bad_answer : {id error n question place : ℕ} {body : List ℕ} {ask : Ask} {found : BodyFault} {fault : TargetFault}
      → HasReply asks s id error body n (Some (of_question question)) → (error == 0) ≡ true
      → slice_get asks question ≡ Some ask
      → answer_at (serving s.asking.sizes) (a_question ask.question) body ≡ Err found
      → answer_fault found ≡ Some (fault, place)
      → IsEnding asks s (BadTarget fault (s.target.stream.at + header + place) 0)
  id_is_taken : {command : DebuggerCommand} {others : List DebuggerCommand} → IsJoined s
      → s.commands ≡ command ∷ others → id_taken s.sent ≡ true → IsEnding asks s Flood
  too_many_commands : {id set number n : ℕ} {body : List ℕ}
      → AtDebugger asks s (Front.whole (command_packet id set number body) n) → can_keep s ≡ false
      → IsEnding asks s Flood
  too_many_events : {id set number n : ℕ} {body : List ℕ}
      → AtTarget asks s (Front.whole (command_packet id set number body) n) → has_room s ≡ false
      → IsEnding asks s Flood
  too_many_replies : {id error n own : ℕ} {body : List ℕ} {leaves : Bool}
      → HasReply asks s id error body n (Some (Debugger own leaves)) → has_room s ≡ false → IsEnding asks s Flood
  no_memory : IsEnding asks s NoMemory

-- a step is by its rule; the tap waits where nothing is due, and nothing stands at the front of what came of either
-- side
abbrev pub Rule : List Ask → TapState → Type 0 → Step → Type 0
Rule asks s rests (Step.says what) = IsDue asks s what
Rule asks s rests (Step.hears message s') = IsHeard asks s message s'
Rule asks s rests (Step.learns packet numbers s') = IsLearnt asks s packet numbers s'
Rule asks s rests (Step.ends ending) = IsEnding asks s ending
Rule asks s rests Step.waits = rests

abbrev pub IsStep : List Ask → TapState → Step → Type 0
IsStep asks s = Rule asks s (AtTarget asks s Front.waits)

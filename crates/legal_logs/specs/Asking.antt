-- What may go out where the order of questions is free, and what an item in hand waits for.
use Rattle.std.specs.Prelude.{◌≡◌, ◌∷◌, true, false, [], None, Some}
use Rattle.machine_model.specs.Due.{Due, Load, asked_now, busy, clear, due_as, gated, is_full, lacking_more, lets}
use Rattle.machine_model.specs.Due.{load_of, queued, waiting, wanted}
use Rattle.machine_model.specs.Plans.{question_of}
use Rattle.machine_model.specs.Rest.{awaits_greeting, is_silent}
use Rattle.machine_model.specs.Runs.{MayQueue, Message, said, to_ask}
use Rattle.machine_model.specs.State.{Hand, Machine, is_gone}
use Rattle.session_model.specs.Names.{a_question, Act, Want}
use Rattle.session_model.specs.States.{SessionState, id_pending}

-- What is due ---------------------------------------------------------------------------------------------------------

-- what is due where this hinders the machine: what is wanted, where nothing does
abbrev pub due_under : Load → Machine → Due
due_under busy m = due_as Act.Waits m
due_under queued m = due_as Act.Waits m
due_under lacking_more m = due_as Act.Waits m
due_under waiting m = due_as Act.Waits m
due_under clear m = gated (lets (is_gone m.state.phase) (wanted m).act) m (wanted m)

-- What is due but questions, which nobody is told to ask: they may be asked. While something is lacking nothing is due.
unfoldable pub due_asked : Machine → Due
due_asked m = due_under (load_of m) m

-- What may be asked ---------------------------------------------------------------------------------------------------

-- A question may be asked: the part in front of the item in hand lacks it, it wasn't asked for this item, no effect has
-- its reply to come, and fewer than sixteen commands are pending. Which of those that are lacking goes is free.
pub record MayAsk (m : Machine) (want : Want) (next : Machine) : Type 0 where
  pub hand : Hand
  pub lacking : MayQueue m hand (want ∷ [])
  pub room : is_full false m ≡ false
  pub asked : next ≡ asked_now (to_ask m hand (want ∷ [])) want

-- What may go out next, and the machine that follows: the message that is due, or a question that is lacking.
pub data MaySay (m : Machine) : Message → Machine → Type 0 where
  acts : {message : Message} → said (due_asked m).act ≡ Some message → MaySay m message (due_asked m).next
  asks : {want : Want} {next : Machine} → MayAsk m want next
      → MaySay m (Message.sends (a_question (question_of want))) next

-- What is waited for --------------------------------------------------------------------------------------------------

-- There is no item in hand, or something is pending for it: the reply to a command, the target's handshake, or the
-- reply to the command that has the next id.
pub data IsHeld (s : SessionState) : Type 0 where
  no_item : s.machine.hand ≡ None → IsHeld s
  by_command : is_silent s.machine ≡ false → IsHeld s
  by_greeting : awaits_greeting s.machine.state ≡ true → IsHeld s
  by_id : id_pending s.streams.commands ≡ true → IsHeld s

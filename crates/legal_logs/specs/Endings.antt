-- How a log ends: why its session ended, by a reading, and which last words stand behind that.
use Rattle.std.specs.Prelude.{ℕ, ◌≡◌, ◌+◌, ◌<◌, ◌∷◌, ◌++◌, false, List, [], length, take}
use Rattle.jdwp_commands.specs.Commands.{number_of}
use Rattle.machine_model.specs.Replying.{is_tolerated, wire}
use Rattle.machine_model.specs.Runs.{Message}
use Rattle.machine_model.specs.State.{Machine}
use Rattle.legal_logs.specs.Asking.{MaySay, due_asked}
use Rattle.legal_logs.specs.Readings.{HasReadAll, IsAdded, MayRead, MayReadClient, MayReadTarget, MayTurn, MayWait}
use Rattle.legal_logs.specs.Readings.{Reading}
use Rattle.session_model.specs.Causes.{IsOn, link_ending}
use Rattle.session_model.specs.Faults.{HasReply, IsClientFault, IsKeptFault, IsTargetFault}
use Rattle.session_model.specs.LastWords.{LastWord, last_word_said, last_words, word_bytes, word_side}
use Rattle.session_model.specs.Names.{Act, BadClient, BadTarget, Client, ClientFault, Done, Ending, Entry, Failed}
use Rattle.session_model.specs.Names.{finish_done, finish_one_thread, Flood, Idle, Left, Limits, Out, PolicyThread}
use Rattle.session_model.specs.Names.{Shut, Side, Spent, TargetCommand, TargetFault, TargetRefused}
use Rattle.session_model.specs.Saying.{Speaks}
use Rattle.session_model.specs.Session.{EndedState}
use Rattle.session_model.specs.States.{SessionState, StreamState}
use Rattle.target_bodies.specs.Hearing.{header}

-- Causes --------------------------------------------------------------------------------------------------------------

-- Why a session that stands here, after so many turns, ends so, where nothing in the log is the cause: the machine is
-- done, or a composite suspended one thread alone; the client's next bytes have a fault, or the target's, or the next
-- of the composites that were kept; the target refuses a pending command with an error that isn't tolerated; more items
-- wait than may; or all that came was read, and a limit is reached. Of the two limits that on turns comes first.
pub data EndsHere (limits : Limits) (turns : ℕ) (s : SessionState) : Ending → Type 0 where
  over : IsOn limits s → (due_asked s.machine).act ≡ Act.Over finish_done → EndsHere limits turns s Done
  one_thread : {at : ℕ} → IsOn limits s → (due_asked s.machine).act ≡ Act.Over (finish_one_thread at)
      → EndsHere limits turns s (BadTarget PolicyThread (at + header) 0)
  misread : {fault : ClientFault} {offset : ℕ} → MayReadClient limits s
      → IsClientFault s.streams.client fault offset → EndsHere limits turns s (BadClient fault offset)
  misheard : {fault : TargetFault} {offset id : ℕ} → MayReadTarget limits s → IsTargetFault s fault offset id
      → EndsHere limits turns s (BadTarget fault offset id)
  misheard_kept : {fault : TargetFault} {offset : ℕ} → MayRead limits s → IsKeptFault s.machine fault offset
      → EndsHere limits turns s (BadTarget fault offset 0)
  refused : {command : TargetCommand} {error : ℕ} {body : List ℕ} → MayReadTarget limits s
      → HasReply s command error body → 0 < error → is_tolerated command error ≡ false
      → EndsHere limits turns s (TargetRefused (number_of (wire command)).0 (number_of (wire command)).1 error)
  flood : limits.waiting < length s.machine.waiting → EndsHere limits turns s Flood
  idle : HasReadAll limits s → turns < limits.turns → s.quiets ≡ limits.quiet → EndsHere limits turns s Idle
  spent : HasReadAll limits s → turns ≡ limits.turns → EndsHere limits turns s Spent

-- Parts of messages ---------------------------------------------------------------------------------------------------

-- At the end of this log a part of a message stands that may go out, less than the whole.
pub record HasPart (limits : Limits) (log : List Entry) (messages : List Message) (turns : ℕ) (s : SessionState)
    (side : Side) : Type 0 where
  pub before : List Entry
  pub message : Message
  pub next : Machine
  pub bytes : List ℕ
  pub streams : StreamState
  pub kept : ℕ
  pub reading : Reading limits before messages turns s
  pub on : IsOn limits s
  pub may : MaySay s.machine message next
  pub speaks : Speaks s message side bytes streams
  pub some : 0 < kept
  pub proper : kept < length bytes
  pub added : IsAdded side (take kept bytes) before log

-- Where a reading ends ------------------------------------------------------------------------------------------------

-- The reading of this log ends with the session, before any last word: what stands here ends it; or the last entry
-- does, which is the end of the client's stream, where the bridge may wait, or the failure of a link. A link fails
-- where all that came was read; or where a message was to go out to that side, none of it or a part.
pub data Halts (limits : Limits) : List Entry → List Message → ℕ → SessionState → Ending → Type 0 where
  here : {log : List Entry} {messages : List Message} {turns : ℕ} {s : SessionState} {ending : Ending}
      → Reading limits log messages turns s → EndsHere limits turns s ending → Halts limits log messages turns s ending
  shut : {log : List Entry} {messages : List Message} {turns : ℕ} {s : SessionState}
      → Reading limits log messages turns s → MayWait limits turns s
      → Halts limits (log ++ Shut Client ∷ []) messages (turns + 1) s Left
  lost : {log : List Entry} {messages : List Message} {turns : ℕ} {s : SessionState} (side : Side)
      → Reading limits log messages turns s → MayTurn limits turns s
      → Halts limits (log ++ Failed side ∷ []) messages (turns + 1) s (link_ending side)
  unsent : {log : List Entry} {messages : List Message} {turns : ℕ} {s : SessionState} {message : Message}
      {next : Machine} {side : Side} {bytes : List ℕ} {streams : StreamState}
      → Reading limits log messages turns s → IsOn limits s → MaySay s.machine message next
      → Speaks s message side bytes streams
      → Halts limits (log ++ Failed side ∷ []) messages turns s (link_ending side)
  broken : {log : List Entry} {messages : List Message} {turns : ℕ} {s : SessionState} {side : Side}
      → HasPart limits log messages turns s side
      → Halts limits (log ++ Failed side ∷ []) messages turns s (link_ending side)

-- the cause has come, and all last words are left
abbrev pub halted : SessionState → Ending → EndedState
halted s ending =
    record { last = s; ending = ending; said = []; left = last_words ending s.machine; streams = s.streams }

-- the next of the last words was said
abbrev pub one_said : EndedState → LastWord → List LastWord → EndedState
one_said e word rest =
    record e { said = e.said ++ word ∷ []; left = rest; streams = last_word_said e.streams word }

-- A reading that has ended: behind the cause stand the ending's last words, one an entry, in their order, up to the
-- first that can't be sent.
pub data ReadOut (limits : Limits) : List Entry → List Message → ℕ → EndedState → Type 0 where
  halts : {log : List Entry} {messages : List Message} {turns : ℕ} {s : SessionState} {ending : Ending}
      → Halts limits log messages turns s ending → ReadOut limits log messages turns (halted s ending)
  says : {log : List Entry} {messages : List Message} {turns : ℕ} {e : EndedState} {word : LastWord}
      {rest : List LastWord}
      → ReadOut limits log messages turns e → e.left ≡ word ∷ rest
      → ReadOut limits (log ++ Out (word_side word) (word_bytes e.streams word) ∷ []) messages turns
      (one_said e word rest)
  fails : {log : List Entry} {messages : List Message} {turns : ℕ} {e : EndedState} {word : LastWord}
      {rest : List LastWord}
      → ReadOut limits log messages turns e → e.left ≡ word ∷ rest
      → ReadOut limits (log ++ Failed (word_side word) ∷ []) messages turns (record e { left = [] })
  breaks : {log : List Entry} {messages : List Message} {turns kept : ℕ} {e : EndedState} {word : LastWord}
      {rest : List LastWord}
      → ReadOut limits log messages turns e → e.left ≡ word ∷ rest → 0 < kept
      → kept < length (word_bytes e.streams word)
      → ReadOut limits
      ((log ++ Out (word_side word) (take kept (word_bytes e.streams word)) ∷ []) ++ Failed (word_side word) ∷ [])
      messages turns (record e { left = [] })

-- At the end of this log a part of the next of the last words stands, less than the whole.
pub record HasWordPart (limits : Limits) (log : List Entry) (e : EndedState) : Type 0 where
  pub before : List Entry
  pub messages : List Message
  pub turns : ℕ
  pub word : LastWord
  pub rest : List LastWord
  pub kept : ℕ
  pub ended : ReadOut limits before messages turns e
  pub is_next : e.left ≡ word ∷ rest
  pub some : 0 < kept
  pub proper : kept < length (word_bytes e.streams word)
  pub log_is : log ≡ before ++ Out (word_side word) (take kept (word_bytes e.streams word)) ∷ []

-- What each side is sent, by its bytes. The laws stand at the end, behind what they speak of.
use Rattle.std.specs.Prelude.{ℕ, ◌≡◌, ◌<◌, ◌+◌, ◌%◌, ◌∷◌, ◌++◌, Bool, true, false, List, [], length, take}
use Rattle.dap_frames.specs.Frames.{frame_bytes}
use Rattle.dap_messages.specs.Telling.{told_text}
use Rattle.jdwp_packets.specs.Packets.{handshake}
use Rattle.jdwp_values.specs.declared.sizes.IdSizes.{IdSizes}
use Rattle.machine_model.specs.Pending.{goes_out}
use Rattle.machine_model.specs.Replying.{SizesFor, wire}
use Rattle.machine_model.specs.Runs.{Allows, Message, Run}
use Rattle.machine_model.specs.State.{Machine}
use Rattle.pending_table.specs.Windows.{turn}
use Rattle.session_model.specs.Names.{Client, Entry, Side, Target, TargetCommand, Told}
use Rattle.session_laws.specs.Bytes.{HasLost, went_to}
use Rattle.session_model.specs.LastWords.{LastWord, dispose_packet, last_words, word_bytes, word_side}
use Rattle.session_model.specs.Saying.{Speaks, nth_command, told_bytes}
use Rattle.session_model.specs.Session.{EndedState}
use Rattle.session_model.specs.States.{SessionState, StreamState}

-- Messages ------------------------------------------------------------------------------------------------------------

abbrev pub is_told : Message → Bool
is_told (Message.tells told) = true
is_told _ = false

-- the message goes to this side: what is told to the client; the handshake and the commands to the target
abbrev pub goes_to : Side → Message → Bool
goes_to Client message = is_told message
goes_to Target message = goes_out message

-- A message goes to this side as these bytes, with so many numbered ones before it, and so many behind it: what is told
-- is one frame, numbered on (DAP overview, Base protocol; DAP specification, Base Protocol, ProtocolMessage, `seq`); a
-- command is one packet, with the next id, spelled with the sizes of ids that serve where it is sent, all of which give
-- the same (JDWP, JDWP Packets, command packet); the handshake has no number (JDWP, JDWP Start Up).
pub data GoesAs (messages : List Message) : Side → ℕ → Message → List ℕ → ℕ → Type 0 where
  tells : {n : ℕ} (told : Told)
      → GoesAs messages Client n (Message.tells told) (frame_bytes (told_text (n + 1) told)) (n + 1)
  greets : {n : ℕ} → GoesAs messages Target n Message.greets handshake n
  sends : {n : ℕ} {m : Machine} {used : IdSizes} (command : TargetCommand) → Run messages m
      → SizesFor m.state.sizes used
      → ((other : IdSizes) → SizesFor m.state.sizes other
      → nth_command n other (wire command) ≡ nth_command n used (wire command))
      → GoesAs messages Target n (Message.sends command) (nth_command n used (wire command)) (n + 1)

-- Those of these messages that go to a side are sent to it as these bytes, in order, so many of them numbered: from 1
-- for what is told, and with the ids 1, 2, 3 and so on for commands.
pub data AreSentAs (side : Side) : List Message → ℕ → List ℕ → Type 0 where
  none : AreSentAs side [] 0 []
  aside : {messages : List Message} {n : ℕ} {bytes : List ℕ} (message : Message) → goes_to side message ≡ false
      → AreSentAs side messages n bytes → AreSentAs side (messages ++ message ∷ []) n bytes
  goes : {messages : List Message} {n next : ℕ} {bytes more : List ℕ} (message : Message)
      → GoesAs messages side n message more next → AreSentAs side messages n bytes
      → AreSentAs side (messages ++ message ∷ []) next (bytes ++ more)

-- where a session stands in its numbers: how many messages were told, and how many commands were sent, whole turns of
-- ids left out
abbrev pub IsCounted : Side → StreamState → ℕ → Type 0
IsCounted Client streams n = streams.told ≡ n
IsCounted Target streams n = streams.commands.next ≡ n % turn

-- What a side is sent are the bytes of the messages that go to it, and nothing else.
pub record IsSent (side : Side) (log : List Entry) (messages : List Message) (s : SessionState) : Type 0 where
  pub count : ℕ
  pub spelled : AreSentAs side messages count (went_to side log)
  pub counted : IsCounted side s.streams count

-- Last words ----------------------------------------------------------------------------------------------------------

-- the bytes of a last word to a side, with so many numbered ones before it
abbrev pub word_given : Side → ℕ → LastWord → List ℕ
word_given Client n (LastWord.tells told) = told_bytes n told
word_given Client n LastWord.disposes = []
word_given Target n (LastWord.tells told) = []
word_given Target n LastWord.disposes = dispose_packet n

-- what is told is numbered on; the target is left with one command, the last
abbrev pub number_behind : Side → ℕ → LastWord → ℕ
number_behind Client n (LastWord.tells told) = n + 1
number_behind Client n LastWord.disposes = n
number_behind Target n word = n

-- all bytes of last words to a side, joined
abbrev pub words_given : Side → ℕ → List LastWord → List ℕ
words_given side n [] = []
words_given side n (word ∷ words) = word_given side n word ++ words_given side (number_behind side n word) words

-- what was to be sent to a side next: what the machine allowed where the session ended, or the next of the last words
pub data IsNext (side : Side) (e : EndedState) : List ℕ → Type 0 where
  of_machine : {message : Message} {next : Machine} {bytes : List ℕ} {streams : StreamState}
      → Allows e.last.machine message next → Speaks e.last message side bytes streams → IsNext side e bytes
  of_words : (word : LastWord) (unsaid : List LastWord) → word_side word ≡ side
      → last_words e.ending e.last.machine ≡ e.said ++ word ∷ unsaid → IsNext side e (word_bytes e.streams word)

-- What a side was sent behind whole messages: nothing; or, where its link failed, less than the whole of what was to be
-- sent next.
pub data IsBehind (side : Side) (log : List Entry) (e : EndedState) : List ℕ → Type 0 where
  nothing : IsBehind side log e []
  broken : {bytes : List ℕ} {kept : ℕ} → HasLost side log → IsNext side e bytes → kept < length bytes
      → IsBehind side log e (take kept bytes)

-- What a side is sent in all are the bytes of the messages that go to it, and of the last words that were said to it
-- behind them, numbered on; and then nothing, but for what a send that failed leaves.
pub record IsSentInAll (side : Side) (log : List Entry) (messages : List Message) (e : EndedState) : Type 0 where
  pub count : ℕ
  pub bytes : List ℕ
  pub rest : List ℕ
  pub spelled : AreSentAs side messages count bytes
  pub sent_are : went_to side log ≡ (bytes ++ words_given side count e.said) ++ rest
  pub behind : IsBehind side log e rest

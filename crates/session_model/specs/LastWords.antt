-- What is said after an ending, and how.
use Rattle.std.specs.Prelude.{ℕ, ◌<◌, ◌∷◌, ◌++◌, Bool, true, false, List, [], length, map, take}
use Rattle.dap_messages.specs.Telling.{target_gone}
use Rattle.dap_messages.specs.declared.told.Event.TheVariants as events
use Rattle.dap_messages.specs.declared.told.Outcome.TheVariants as outcomes
use Rattle.jdwp_packets.specs.Packets.{command_packet, packet_bytes}
use Rattle.machine_model.specs.Rest.{without_response}
use Rattle.machine_model.specs.State.{Machine}
use Rattle.machine_model.specs.Telling.{response_to}
use Rattle.pending_table.specs.Windows.{id_of}
use Rattle.session_model.specs.Names.{an_event, Attached, BadClient, BadTarget, Client, ClientLink, Done, Ending}
use Rattle.session_model.specs.Names.{Entry, Flood, Fresh, Gone, Idle, Left, NoMemory, Out, Phase, Request, Side}
use Rattle.session_model.specs.Names.{Spent, Target, TargetLink, TargetRefused, Told}
use Rattle.session_model.specs.Saying.{one_told, told_bytes}
use Rattle.session_model.specs.States.{StreamState}
use Rattle.wire_core.specs.Outside.{broken_send}

-- what is said after an ending: something is told to the client, or the target is left to run on
pub data LastWord : Type 0 where
  tells : Told → LastWord
  disposes : LastWord

-- Which they are ------------------------------------------------------------------------------------------------------

-- the request fails, since its target is gone (DAP specification, Base Protocol, ErrorResponse)
abbrev pub fails_gone : Request → LastWord
fails_gone request = LastWord.tells (response_to request (outcomes.Failure target_gone))

-- `terminated` is told, unless it was (DAP specification, Events, Terminated)
abbrev pub end_word : Bool → List LastWord
end_word true = []
end_word false = LastWord.tells (an_event events.Terminated) ∷ []

-- The client is told that its requests fail, and that nothing more comes of the target.
abbrev pub client_words : Machine → List LastWord
client_words m = map fails_gone (without_response m) ++ end_word m.state.terminated

-- A target that is attached is left to run on (JDWP, VirtualMachine command set, Dispose).
abbrev pub target_words : Phase → List LastWord
target_words Fresh = []
target_words Attached = LastWord.disposes ∷ []
target_words Gone = []

-- What is said after an ending: to the client where the target was lost; to the target where the client was, and at
-- the limits on turns and on items; to both where the target refused a command, or nothing came for too long.
abbrev pub last_words : Ending → Machine → List LastWord
last_words Done m = []
last_words Left m = target_words m.state.phase
last_words (BadClient fault at) m = target_words m.state.phase
last_words (BadTarget fault at id) m = client_words m
last_words ClientLink m = target_words m.state.phase
last_words TargetLink m = client_words m
last_words (TargetRefused set command code) m = client_words m ++ target_words m.state.phase
last_words Idle m = client_words m ++ target_words m.state.phase
last_words Spent m = target_words m.state.phase
last_words Flood m = target_words m.state.phase
last_words NoMemory m = []

-- How they are said ---------------------------------------------------------------------------------------------------

-- the side that gets a last word
abbrev pub word_side : LastWord → Side
word_side (LastWord.tells told) = Client
word_side LastWord.disposes = Target

-- the packet that lets a target run on, with so many commands before it: its set is 1, its number 6, and it has no body
-- (JDWP, VirtualMachine command set, Dispose)
abbrev pub dispose_packet : ℕ → List ℕ
dispose_packet n = packet_bytes (command_packet (id_of n) 1 6 [])

-- the bytes of a last word: what is told is numbered on, and the target gets one command more
abbrev pub word_bytes : StreamState → LastWord → List ℕ
word_bytes streams (LastWord.tells told) = told_bytes streams.told told
word_bytes streams LastWord.disposes = dispose_packet streams.commands.next

-- a last word was said
abbrev pub last_word_said : StreamState → LastWord → StreamState
last_word_said streams (LastWord.tells told) = one_told streams
last_word_said streams LastWord.disposes = streams

-- Of these words some were said, whole, as these entries, and some are left, from one place in the bytes to another.
-- The first send that fails leaves a proper part of its word, and then none is left.
pub data AreSpoken (begin : StreamState) (words : List LastWord) :
    List LastWord → List LastWord → List Entry → StreamState → Type 0 where
  none : AreSpoken begin words [] words [] begin
  one_more : {said left : List LastWord} {entries : List Entry} {now : StreamState} {word : LastWord}
      → AreSpoken begin words said (word ∷ left) entries now
      → AreSpoken begin words (said ++ word ∷ []) left
      (entries ++ Out (word_side word) (word_bytes now word) ∷ []) (last_word_said now word)
  cut_short : {said left : List LastWord} {entries : List Entry} {now : StreamState} {word : LastWord} {kept : ℕ}
      → AreSpoken begin words said (word ∷ left) entries now → kept < length (word_bytes now word)
      → AreSpoken begin words said []
      (entries ++ broken_send (word_side word) (take kept (word_bytes now word))) now

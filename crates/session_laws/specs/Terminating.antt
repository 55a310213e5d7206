-- How often the client is told that nothing more comes of its target.
use Rattle.std.specs.Prelude.{ℕ, ◌≡◌, ◌≤◌, ◌+◌, Bool, true, false, List, [], count_by}
use Rattle.dap_messages.specs.declared.told.Event.{Event as EventTold}
use Rattle.dap_messages.specs.declared.told.Event.TheVariants as events
use Rattle.machine_model.specs.Runs.{Message}
use Rattle.session_laws.specs.Bytes.{HasLost}
use Rattle.session_model.specs.LastWords.{LastWord}
use Rattle.session_model.specs.Names.{a_response, an_event, Client, Entry, Told}
use Rattle.session_laws.specs.Responses.{tells_client}
use Rattle.session_model.specs.Session.{EndedState}

-- it is `terminated` (DAP specification, Events, Terminated)
abbrev pub is_terminated : EventTold → Bool
is_terminated events.Initialized = false
is_terminated (events.Breakpoint breakpoint) = false
is_terminated (events.Thread change) = false
is_terminated (events.Stopped stop) = false
is_terminated (events.Output text) = false
is_terminated events.Terminated = true

abbrev pub tells_terminated : Told → Bool
tells_terminated (a_response response) = false
tells_terminated (an_event event) = is_terminated event

-- told by a message of the run
abbrev pub by_message : Message → Bool
by_message (Message.tells told) = tells_terminated told
by_message _ = false

-- told as a last word
abbrev pub by_word : LastWord → Bool
by_word (LastWord.tells told) = tells_terminated told
by_word LastWord.disposes = false

-- how often it is told in all
abbrev pub times_told : List Message → List LastWord → ℕ
times_told messages words = count_by by_message messages + count_by by_word words

-- It is told at most once; and just once where an ending is told to the client, once no last word is left, unless the
-- client's link has failed.
pub record IsToldOnce (log : List Entry) (messages : List Message) (e : EndedState) : Type 0 where
  pub at_most : times_told messages e.said ≤ 1
  pub once : tells_client e.ending ≡ true → e.left ≡ [] → ¬ HasLost Client log → times_told messages e.said ≡ 1

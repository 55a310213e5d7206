-- What is wrong where no reading of a log goes on: a table of clauses, by the entry that stands there.
use Rattle.std.specs.Prelude.{ℕ, ◌≡◌, ◌<◌, ◌+◌, ◌∷◌, ◌++◌, Bool, true, false, List, [], length, drop, Some}
use Rattle.dap_messages.specs.declared.told.Response.{Response}
use Rattle.legal_logs.specs.Asking.{IsHeld, MaySay, due_asked}
use Rattle.legal_logs.specs.Endings.{HasPart, HasWordPart, ReadOut}
use Rattle.legal_logs.specs.Readings.{HasReadAll, MayTurn, Reading}
use Rattle.machine_model.specs.Rest.{IsAnswer, awaits_greeting, is_silent, without_response}
use Rattle.machine_model.specs.Runs.{Message, said}
use Rattle.machine_model.specs.State.{Machine}
use Rattle.session_model.specs.Causes.{IsOn}
use Rattle.session_model.specs.LastWords.{LastWord, word_side}
use Rattle.session_model.specs.Names.{a_response, an_event, Act, Client, Entry, Failed, In, Limits, Out, Quiet, Request}
use Rattle.session_model.specs.Names.{Shut, Side}
use Rattle.session_model.specs.Saying.{Speaks, told_bytes}
use Rattle.session_model.specs.Session.{EndedState}
use Rattle.session_model.specs.States.{SessionState, StreamState}

-- The clauses ---------------------------------------------------------------------------------------------------------

-- what a log is held to: that each message is whole, and spelled as the protocols say; that responses answer the
-- requests, in order; that what goes out may, and what is due does; that responses have the right outcome; and that the
-- session ends as it should
pub data Clause : Type 0 where
  spelling : Clause
  answering : Clause
  acting : Clause
  outcome : Clause
  ending : Clause

-- the number that a clause is told by
abbrev pub number_of : Clause → ℕ
number_of spelling = 1
number_of answering = 2
number_of acting = 3
number_of outcome = 8
number_of ending = 9

-- What stands in a send -----------------------------------------------------------------------------------------------

-- these bytes to a side begin with a message that is spelled as the next of that side, whether it may go or not; or
-- they are a part of one
pub data IsSpelled (s : SessionState) (side : Side) (rest : List ℕ) : Type 0 where
  whole : {message : Message} {bytes : List ℕ} {streams : StreamState} (more : List ℕ)
      → Speaks s message side bytes streams
      → rest ≡ bytes ++ more → IsSpelled s side rest
  part : {message : Message} {bytes : List ℕ} {streams : StreamState} (more : List ℕ)
      → Speaks s message side bytes streams
      → bytes ≡ rest ++ more → IsSpelled s side rest

-- these bytes begin with this response, under the next number (DAP specification, Base Protocol, ProtocolMessage,
-- `seq`)
abbrev pub Responds : StreamState → List ℕ → Response → Type 0
Responds streams rest response = (more : List ℕ) × (rest ≡ told_bytes streams.told (a_response response) ++ more)

-- the response is to the first of these requests (DAP specification, Base Protocol, Response)
abbrev pub IsToFirst : List Request → Response → Type 0
IsToFirst [] response = ⊥
IsToFirst (request ∷ requests) response = IsAnswer request response

-- two responses to one request
pub record IsToSame (one other : Response) : Type 0 where
  pub seq : one.request_seq ≡ other.request_seq
  pub command : one.command ≡ other.command

-- the response that is due is to the same request
pub record IsForDue (s : SessionState) (response : Response) : Type 0 where
  pub due : Response
  pub is_due : (due_asked s.machine).act ≡ Act.Tells (a_response due)
  pub same : IsToSame response due

-- Where a reading stops -----------------------------------------------------------------------------------------------

-- A reading stands here, after so many turns, and can't read on: a message is due, or all that came was read. Nothing
-- ends the session here.
pub data IsSettled (limits : Limits) (turns : ℕ) (s : SessionState) : Type 0 where
  says : {message : Message} → IsOn limits s → said (due_asked s.machine).act ≡ Some message
      → IsSettled limits turns s
  waits : MayTurn limits turns s → IsSettled limits turns s

-- no message that may go out here stands at the front of these bytes
abbrev pub NoneGoes : SessionState → Side → List ℕ → Type 0
NoneGoes s side rest = (message : Message) (next : Machine) (bytes more : List ℕ) (streams : StreamState)
    → MaySay s.machine message next → Speaks s message side bytes streams → rest ≡ bytes ++ more → ⊥

-- A reading stops in a send behind these entries: at its front, or behind some of its messages. This rest of it stands
-- there, which begins with none that may go out.
pub data StopsIn (limits : Limits) (before : List Entry) : Entry → SessionState → Side → List ℕ → Type 0 where
  at_front : {messages : List Message} {turns : ℕ} {s : SessionState} {side : Side} {rest : List ℕ}
      → Reading limits before messages turns s → IsSettled limits turns s → NoneGoes s side rest
      → StopsIn limits before (Out side rest) s side rest
  inside : {messages : List Message} {turns : ℕ} {s : SessionState} {side : Side} {rest : List ℕ} (begun : List ℕ)
      → Reading limits (before ++ Out side begun ∷ []) messages turns s → IsSettled limits turns s
      → NoneGoes s side rest → 0 < length rest → StopsIn limits before (Out side (begun ++ rest)) s side rest

-- an entry that is a send
abbrev pub is_send : Entry → Bool
is_send (Out side bytes) = true
is_send (In side bytes) = false
is_send (Shut side) = false
is_send (Failed side) = false
is_send Quiet = false

-- an entry in front of which the bridge waited; a link may have failed in a send
abbrev pub is_wait : Entry → Bool
is_wait (Out side bytes) = false
is_wait (In side bytes) = true
is_wait (Shut side) = true
is_wait (Failed side) = false
is_wait Quiet = true

-- A reading stands behind these entries and can't read on, and the next entry is no send.
pub record StopsAt (limits : Limits) (before : List Entry) (entry : Entry) (s : SessionState) : Type 0 where
  pub messages : List Message
  pub turns : ℕ
  pub reading : Reading limits before messages turns s
  pub settled : IsSettled limits turns s
  pub no_send : is_send entry ≡ false

-- Behind a cause ------------------------------------------------------------------------------------------------------

-- where an ended session stands in what it says
abbrev pub behind : EndedState → SessionState
behind e = record e.last { streams = e.streams }

-- the response in a last word, as one more that is answered
abbrev pub answered_by : LastWord → ℕ
answered_by (LastWord.tells (a_response response)) = 1
answered_by (LastWord.tells (an_event event)) = 0
answered_by LastWord.disposes = 0

abbrev pub answered_in : List LastWord → ℕ
answered_in [] = 0
answered_in (word ∷ words) = answered_by word + answered_in words

-- the requests that have no response once these last words were said
abbrev pub unanswered : EndedState → List Request
unanswered e = drop (answered_in e.said) (without_response e.last.machine)

-- A reading has ended behind these entries, and the next entry sends these bytes.
pub record SendsBehind (limits : Limits) (before : List Entry) (entry : Entry) (e : EndedState) (side : Side)
    (rest : List ℕ) : Type 0 where
  pub messages : List Message
  pub turns : ℕ
  pub ended : ReadOut limits before messages turns e
  pub sends : entry ≡ Out side rest

-- The table -----------------------------------------------------------------------------------------------------------

-- Why no reading that stands behind these entries goes on through this one. Each row says the least clause that it
-- breaks there.
pub data Blames (limits : Limits) (before : List Entry) (entry : Entry) : Clause → Type 0 where
  -- what is sent is no message that could be the next of its side, and no part of one
  not_spelled : {s : SessionState} {side : Side} {rest : List ℕ} → StopsIn limits before entry s side rest
      → ¬ (IsSpelled s side rest) → Blames limits before entry spelling
  not_spelled_behind : {e : EndedState} {side : Side} {rest : List ℕ} → SendsBehind limits before entry e side rest
      → ¬ (IsSpelled (behind e) side rest) → Blames limits before entry spelling
  -- a message was cut short, and its link didn't fail then
  cut_short : {messages : List Message} {turns : ℕ} {s : SessionState} {side : Side}
      → HasPart limits before messages turns s side → ¬ (entry ≡ Failed side) → Blames limits before entry spelling
  word_cut_short : {e : EndedState} (cut : HasWordPart limits before e) → ¬ (entry ≡ Failed (word_side cut.word))
      → Blames limits before entry spelling
  -- what is sent is a response, and not to the first request without one
  not_first : {s : SessionState} {rest : List ℕ} (response : Response) → StopsIn limits before entry s Client rest
      → Responds s.streams rest response
      → ((read : Response) → Responds s.streams rest read → ¬ (IsToFirst (without_response s.machine) read))
      → Blames limits before entry answering
  not_first_behind : {e : EndedState} {rest : List ℕ} (response : Response)
      → SendsBehind limits before entry e Client rest → Responds e.streams rest response
      → ((read : Response) → Responds e.streams rest read → ¬ (IsToFirst (unanswered e) read))
      → Blames limits before entry answering
  -- the bridge waits, nothing is pending, and a request has no response
  unanswered_here : {s : SessionState} {request : Request} {requests : List Request} → StopsAt limits before entry s
      → is_wait entry ≡ true → is_silent s.machine ≡ true → awaits_greeting s.machine.state ≡ false
      → without_response s.machine ≡ request ∷ requests → Blames limits before entry answering
  -- what is sent is a message, or a part of one, but may not go out here
  not_allowed : {s : SessionState} {side : Side} {rest : List ℕ} → StopsIn limits before entry s side rest
      → IsSpelled s side rest → ((response : Response) → Responds s.streams rest response → ¬ (IsForDue s response))
      → Blames limits before entry acting
  -- something to be told, or for the target, is missing
  missing : {s : SessionState} {message : Message} → StopsAt limits before entry s
      → said (due_asked s.machine).act ≡ Some message → Blames limits before entry acting
  -- the bridge waits, and nothing is pending for the item in hand
  idle_hand : {s : SessionState} → StopsAt limits before entry s → is_wait entry ≡ true → HasReadAll limits s
      → ¬ (IsHeld s) → Blames limits before entry acting
  -- the response that is due has another outcome, or another body
  other_outcome : {s : SessionState} {rest : List ℕ} {response : Response} → StopsIn limits before entry s Client rest
      → Responds s.streams rest response → IsForDue s response → Blames limits before entry outcome
  other_outcome_behind : {e : EndedState} {rest : List ℕ} {response due : Response} {words : List LastWord}
      → SendsBehind limits before entry e Client rest → Responds e.streams rest response
      → e.left ≡ LastWord.tells (a_response due) ∷ words → IsToSame response due → ¬ (response ≡ due)
      → Blames limits before entry outcome
  -- the session has ended, and this is none of its last words
  behind_the_end : {messages : List Message} {turns : ℕ} {e : EndedState} → ReadOut limits before messages turns e
      → Blames limits before entry ending

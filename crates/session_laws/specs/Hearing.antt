-- What the client's bytes say: its requests.
use Rattle.std.specs.Prelude.{ℕ, ◌≡◌, ◌∷◌, ◌++◌, Bool, false, List, [], drop, Ok}
use Rattle.dap_frames.specs.Frames.{Frame, frame_front}
use Rattle.dap_messages.specs.Reading.{reading_of}
use Rattle.dap_messages.specs.declared.requests.Incoming.TheVariants.{Ignored as ignored, Request as a_request}
use Rattle.machine_model.specs.Rest.{requests_of}
use Rattle.machine_model.specs.Runs.{Message, is_disconnect}
use Rattle.session_model.specs.Names.{Client, Entry, Request}
use Rattle.session_laws.specs.Bytes.{came_from}
use Rattle.session_model.specs.States.{SessionState}
use Rattle.wire_core.specs.Streams.{Hands, fed, uncut}

-- These frames read as these requests, in order. A response or an event of the client is passed over. After a
-- `disconnect`, which the last argument says was heard, nothing more is read.
pub data AreRead : List (ℕ × Frame) → List Request → Bool → Type 0 where
  none : AreRead [] [] false
  one_more : {frames : List (ℕ × Frame)} {requests : List Request} {request : Request} (frame : ℕ × Frame)
      → AreRead frames requests false → reading_of frame.1.body ≡ Ok (a_request request)
      → AreRead (frames ++ frame ∷ []) (requests ++ request ∷ []) (is_disconnect request.command)
  passed_over : {frames : List (ℕ × Frame)} {requests : List Request} (frame : ℕ × Frame)
      → AreRead frames requests false → reading_of frame.1.body ≡ Ok ignored
      → AreRead (frames ++ frame ∷ []) requests false

-- The client's bytes are cut into frames, which read as the requests that were heard. What is not cut are the bytes
-- from its offset on.
pub record AreHeard (log : List Entry) (messages : List Message) (s : SessionState) : Type 0 where
  pub frames : List (ℕ × Frame)
  pub cut : Hands frame_front (fed uncut (came_from Client log)) frames s.streams.client
  pub read : AreRead frames (requests_of messages) s.machine.closing
  pub uncut_bytes : s.streams.client.pending ≡ drop s.streams.client.at (came_from Client log)

-- The client's bytes, where they are well formed up to a `disconnect`.
use Rattle.std.specs.Prelude.{ℕ, ◌≡◌, true, List, Ok, drop}
use Rattle.dap_frames.specs.Frames.{Frame, frame_front}
use Rattle.dap_messages.specs.Reading.{reading_of}
use Rattle.dap_messages.specs.declared.requests.Incoming.{Incoming}
use Rattle.dap_messages.specs.declared.requests.Incoming.TheVariants.{Request as a_request}
use Rattle.machine_model.specs.Runs.{is_disconnect}
use Rattle.session_model.specs.Names.{Request}
use Rattle.wire_core.specs.Streams.{Front}

-- These bytes are frames, all whole but for the last, and the body of each whole one is a message of the base protocol.
-- Behind a `disconnect` anything may follow (DAP overview, Base protocol; DAP specification, Base Protocol,
-- ProtocolMessage; DAP specification, Disconnect request).
pub data AreMessages : List ℕ → Type 0 where
  none_whole : {bytes : List ℕ} → frame_front bytes ≡ Front.waits → AreMessages bytes
  one_more : {bytes : List ℕ} {frame : Frame} {n : ℕ} {incoming : Incoming}
      → frame_front bytes ≡ Front.whole frame n → reading_of frame.body ≡ Ok incoming → AreMessages (drop n bytes)
      → AreMessages bytes
  leaves : {bytes : List ℕ} {frame : Frame} {n : ℕ} {request : Request} → frame_front bytes ≡ Front.whole frame n
      → reading_of frame.body ≡ Ok (a_request request) → is_disconnect request.command ≡ true → AreMessages bytes

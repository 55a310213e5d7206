-- What a cutter keeps and answers.
use Rattle.std.specs.Prelude.{◌≡◌, ℕ, ◌+◌, ◌≤◌, List, length, take, drop, Ok, Err, None, Option, Result, IsOkAnd}
use Rattle.std.specs.Prelude.{IsSomeAnd}
use Rattle.wire_core.specs.Streams.{Front, waits, whole, faulty, Uncut}
use Rattle.dap_frames.specs.declared.fault.FrameFault.{FrameFault}
use Rattle.dap_frames.specs.declared.fault.FrameTrouble.{FrameTrouble}
use Rattle.dap_frames.specs.declared.header.Head.{Head}
use Rattle.dap_frames.specs.declared.front.Found.{Found}
use Rattle.dap_frames.specs.declared.front.Found.TheVariants.{Waits, Whole, Refused}
use Rattle.dap_frames.specs.declared.cutter.Body.{Body}
use Rattle.dap_frames.specs.Frames.{Frame, frame_front, header_of}

-- the first `read` of the pending bytes say `head`
pub record IsRead (head : Head) (read : ℕ) (pending : List ℕ) : Type 0 where
  pub within : read ≤ length pending
  pub says : header_of (take read pending) ≡ head

-- what was found is what stands at the front of these bytes
abbrev pub IsFound : Found → Front Frame FrameFault → List ℕ → Type 0
IsFound Waits front bytes = front ≡ waits
IsFound (Whole header size) front bytes =
    (front ≡ whole (record { header = header; body = drop header (take size bytes) }) size) × (header ≤ size)
    × (size ≤ length bytes)
IsFound (Refused fault behind) front bytes = (front ≡ faulty fault behind) × (behind ≤ length bytes)

-- a body and its offset, nothing, or a fault with its offset, by what stands at the front
abbrev pub IsAnswer : Front Frame FrameFault → ℕ → Result (Option Body) FrameTrouble → Type 0
IsAnswer waits at result = result ≡ Ok None
IsAnswer (whole frame n) at result =
    IsOkAnd result (λ found. IsSomeAnd found (λ body. (body.at ≡ at + frame.header) × (body.bytes.now ≡ frame.body)))
IsAnswer (faulty fault behind) at result = result ≡ Err (record { fault = fault; at = at + behind })

-- the answer of a cutter with these bytes
abbrev pub IsTaken : Uncut → Result (Option Body) FrameTrouble → Type 0
IsTaken old result = IsAnswer (frame_front old.pending) old.at result

-- The bodies of the frames in some bytes (DAP overview, Base protocol).
use Rattle.std.specs.Prelude.{ℕ, List, [], ◌∷◌, drop}
use Rattle.wire_core.specs.Streams.{Front, waits, whole, faulty}
use Rattle.dap_frames.specs.Frames.{Frame, frame_front}
use Rattle.dap_frames.specs.declared.fault.FrameFault.{FrameFault}

-- the body of the frame at the front, where one is whole there, and then what stands behind it
abbrev pub body_then : Front Frame FrameFault → (ℕ → List (List ℕ)) → List (List ℕ)
body_then waits rest = []
body_then (whole frame n) rest = frame.body ∷ rest n
body_then (faulty fault place) rest = []

-- the bodies of the frames that the bytes begin with, at most one for each of these steps
abbrev pub bodies_within : List ℕ → List ℕ → List (List ℕ)
bodies_within [] bytes = []
bodies_within (step ∷ steps) bytes = body_then (frame_front bytes) (λ n. bodies_within steps (drop n bytes))

-- the bodies of the frames that the bytes begin with, which are no more than the bytes
abbrev pub bodies_of : List ℕ → List (List ℕ)
bodies_of bytes = bodies_within bytes bytes

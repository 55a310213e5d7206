-- Where the client's bytes are well formed up to a `disconnect`, what is uncut of them before it has no fault.
use Rattle.std.proofs.Common.{◌≡◌, ℕ, Bool, true, false, List, [], ◌∷◌, ◌++◌, Ok, drop, refl, sym, ap, subst, ◌∙◌}
use Rattle.std.specs.List.{AllByRecursion as All}
use Rattle.clean_sessions.specs.Client.{AreMessages}
use Rattle.clean_sessions.specs.Premises.{ClientSpeaks}
use Rattle.dap_frames.specs.Frames.{Frame, frame_front}
use Rattle.dap_messages.specs.Reading.{reading_of}
use Rattle.dap_messages.specs.declared.requests.Incoming.{Incoming}
use Rattle.dap_messages.specs.declared.requests.Incoming.TheVariants.{Ignored as ignored, Request as a_request}
use Rattle.machine_model.specs.Runs.{Message, is_disconnect}
use Rattle.session_laws.specs.Hearing.{AreHeard, AreRead}
use Rattle.session_model.specs.Faults.{IsClientFault}
use Rattle.session_model.specs.Names.{ClientFault, Entry, Request}
use Rattle.session_model.specs.States.{SessionState}
use Rattle.wire_core.specs.Streams.{Front, Hands, Uncut, past}

-- What was read -------------------------------------------------------------------------------------------------------

-- it is a `disconnect`
abbrev is_last : Incoming → Bool
is_last (a_request request) = is_disconnect request.command
is_last ignored = false

-- the frame reads as a message that isn't one
abbrev GoesOn : ℕ × Frame → Type 0
GoesOn frame = (incoming : Incoming) × (reading_of frame.1.body ≡ Ok incoming) × (is_last incoming ≡ false)

one_more : (frames : List (ℕ × Frame)) (frame : ℕ × Frame) → All GoesOn frames → GoesOn frame
    → All GoesOn (frames ++ frame ∷ [])
one_more [] frame h one = (one, tt)
one_more (first ∷ frames) frame h one = (h.0, one_more frames frame h.1 one)

all_go_on : {frames : List (ℕ × Frame)} {requests : List Request} {closing : Bool} → AreRead frames requests closing
    → closing ≡ false → All GoesOn frames
all_go_on AreRead.none is = tt
all_go_on (AreRead.one_more {frames} {request = request} frame read reading) is =
    one_more frames frame (all_go_on read refl) (a_request request, reading, is)
all_go_on (AreRead.passed_over {frames} frame read reading) is =
    one_more frames frame (all_go_on read refl) (ignored, reading, refl)

-- What is left --------------------------------------------------------------------------------------------------------

-- behind a frame that isn't a `disconnect`
behind_one : {bytes : List ℕ} {n : ℕ} (frame : ℕ × Frame) → AreMessages bytes
    → frame_front bytes ≡ Front.whole frame.1 n → GoesOn frame → AreMessages (drop n bytes)
behind_one frame (AreMessages.none_whole waits) whole on = cc
behind_one {bytes} {n} frame (AreMessages.one_more {n = k} front reading more) whole on =
    let same : k ≡ n = cc in subst (λ (i : ℕ). AreMessages (drop i bytes)) same more
behind_one frame (AreMessages.leaves {frame = first} {request = request} front reading leaves) whole
    (incoming, reads, is) =
    let body : first ≡ frame.1 = cc in
    let both : Ok (a_request request) ≡ Ok incoming =
    sym reading ∙ ap (λ (f : Frame). reading_of f.body) body ∙ reads in
    let it : a_request request ≡ incoming = cc in
    let no : true ≡ false = sym leaves ∙ ap is_last it ∙ is in cc

left_well : (u : Uncut) (frames : List (ℕ × Frame)) (now : Uncut) → Hands frame_front u frames now → All GoesOn frames
    → AreMessages u.pending → AreMessages now.pending
left_well u [] now same on well = subst (λ (u : Uncut). AreMessages u.pending) (sym same) well
left_well u (frame ∷ frames) now (n, whole, at, rest) on well =
    left_well (past u n) frames now rest on.1 (behind_one frame well whole on.0)

-- no fault stands there
no_fault : {u : Uncut} {fault : ClientFault} {offset : ℕ} → AreMessages u.pending → IsClientFault u fault offset → ⊥
no_fault (AreMessages.none_whole waits) (IsClientFault.bad_frame front) = cc
no_fault (AreMessages.none_whole waits) (IsClientFault.bad_json front reading) = cc
no_fault (AreMessages.none_whole waits) (IsClientFault.bad_message front reading) = cc
no_fault (AreMessages.one_more front reading more) (IsClientFault.bad_frame faulty) = cc
no_fault (AreMessages.one_more front reading more) (IsClientFault.bad_json whole fails) = cc
no_fault (AreMessages.one_more front reading more) (IsClientFault.bad_message whole fails) = cc
no_fault (AreMessages.leaves front reading leaves) (IsClientFault.bad_frame faulty) = cc
no_fault (AreMessages.leaves front reading leaves) (IsClientFault.bad_json whole fails) = cc
no_fault (AreMessages.leaves front reading leaves) (IsClientFault.bad_message whole fails) = cc

pub client_well : {log : List Entry} {messages : List Message} {s : SessionState} {fault : ClientFault} {offset : ℕ}
    → AreHeard log messages s → s.machine.closing ≡ false → ClientSpeaks log
    → IsClientFault s.streams.client fault offset → ⊥
client_well {s = s} heard is_open speaks bad =
    no_fault (left_well _ heard.frames s.streams.client heard.cut (all_go_on heard.read is_open) speaks) bad

-- A session whose client sends the requests of a dump doesn't end by a fault of the client's bytes.
use Rattle.std.proofs.Common.{◌≡◌, ℕ, ◌+◌, ◌<◌, ◌≤◌, ◌^◌, List, [], ◌∷◌, ◌++◌, length, drop, Result, Ok, Err, refl, sym, ap}
use Rattle.std.proofs.Common.{◌∙◌, subst, append_assoc, arith}
use Rattle.std.specs.List.{AllByRecursion}
use Rattle.std.proofs.lemmas.List.{append-nil, drop_at}
use Rattle.dap_frames.specs.Frames.{Frame, frame_front}
use Rattle.dap_frames.specs.declared.fault.FrameFault.{FrameFault}
use Rattle.dap_messages.specs.Reading.{reading_of}
use Rattle.dap_messages.specs.declared.requests.Incoming.{Incoming}
use Rattle.dap_messages.specs.declared.requests.Incoming.TheVariants.{Request as a_request}
use Rattle.dap_messages.specs.declared.requests.ReadFault.{ReadFault}
use Rattle.dap_messages.specs.declared.requests.Request.{Request}
use Rattle.dump_client.specs.Conversing.{asked, heard, start}
use Rattle.dump_client.specs.declared.conversation.Conversation.{Conversation}
use Rattle.dump_requests.proofs.AskLaws.{each_read}
use Rattle.dump_requests.proofs.BoundLaws.{asked_in, heard_in, start_in}
use Rattle.dump_requests.specs.Bounds.{IsInBounds, request_meant}
use Rattle.dump_wires.specs.Talking.{Talks}
use Rattle.machine_model.specs.Runs.{Message}
use Rattle.request_laws.specs.Hearing.{IsHeardAs}
use Rattle.session_endings.specs.Limits.{AreLimits}
use Rattle.session_endings.specs.declared.ending.ClientFault.{ClientFault}
use Rattle.session_endings.specs.declared.ending.Ending.{Ending}
use Rattle.session_endings.specs.declared.ending.Ending.TheVariants.{BadClient}
use Rattle.session_endings.specs.declared.ending.Limits.{Limits}
use Rattle.session_model.specs.Causes.{Cause}
use Rattle.session_model.specs.Faults.{IsClientFault}
use Rattle.session_model.specs.Saying.{Brings, Speaks}
use Rattle.session_model.specs.Session.{Comes, Going, IsLeft}
use Rattle.session_model.specs.States.{SessionState, StreamState}
use Rattle.wire_core.specs.Streams.{Front, Uncut, joined}
use Rattle.wire_core.specs.declared.outside.Entry.{Entry}
use Rattle.wire_core.specs.declared.outside.Entry.TheVariants.{In, Out, Shut, Failed, Quiet}
use Rattle.wire_core.specs.declared.outside.Side.{Side}
use Rattle.wire_core.specs.declared.outside.Side.TheVariants.{Client, Target}

-- Bytes that are whole requests ---------------------------------------------------------------------------------------

-- they are the frame of a request
record IsHeard (bytes : List ℕ) : Type 0 where
  request : Request
  heard : IsHeardAs request bytes

-- uncut bytes are frames of requests, one behind the other
record IsPending (pending : List ℕ) : Type 0 where
  frames : List (List ℕ)
  are : AllByRecursion IsHeard frames
  parts : pending ≡ joined frames

front_none : frame_front [] ≡ Front.waits
unfolding frame_front
front_none = refl

whole_frame : {frame other : Frame} {n m : ℕ}
    → (let one : Front Frame FrameFault = Front.whole frame n in one ≡ Front.whole other m) → frame ≡ other
whole_frame is = cc

whole_size : {frame other : Frame} {n m : ℕ}
    → (let one : Front Frame FrameFault = Front.whole frame n in one ≡ Front.whole other m) → n ≡ m
whole_size is = cc

ok_err : {x : Incoming} {f : ReadFault} → (let one : Result Incoming ReadFault = Ok x in one ≡ Err f) → ⊥
ok_err is = cc

waits_whole : {frame : Frame} {n : ℕ} → (let one : Front Frame FrameFault = Front.waits in one ≡ Front.whole frame n) → ⊥
waits_whole is = cc

waits_faulty : {fault : FrameFault} {n : ℕ}
    → (let one : Front Frame FrameFault = Front.waits in one ≡ Front.faulty fault n) → ⊥
waits_faulty is = cc

whole_faulty : {frame : Frame} {fault : FrameFault} {n m : ℕ}
    → (let one : Front Frame FrameFault = Front.whole frame n in one ≡ Front.faulty fault m) → ⊥
whole_faulty is = cc

-- a frame that stands there whole reads as a request
reads_so : (bytes more : List ℕ) (heard : IsHeard bytes) (frame : Frame) (n : ℕ)
    → frame_front (bytes ++ more) ≡ Front.whole frame n → reading_of frame.body ≡ Ok (a_request heard.request)
reads_so bytes more heard frame n is =
    ap (λ (f : Frame). reading_of f.body) (whole_frame (sym is ∙ heard.heard.cut more)) ∙ heard.heard.reads

-- they have no fault
no_fault : (u : Uncut) (frames : List (List ℕ)) → AllByRecursion IsHeard frames → u.pending ≡ joined frames
    → (fault : ClientFault) (offset : ℕ) → ¬ IsClientFault u fault offset
no_fault u [] are parts fault offset (IsClientFault.bad_frame is) =
    waits_faulty (sym front_none ∙ ap frame_front (sym parts) ∙ is)
no_fault u [] are parts fault offset (IsClientFault.bad_json is not_read) =
    waits_whole (sym front_none ∙ ap frame_front (sym parts) ∙ is)
no_fault u [] are parts fault offset (IsClientFault.bad_message is not_read) =
    waits_whole (sym front_none ∙ ap frame_front (sym parts) ∙ is)
no_fault u (bytes ∷ frames) are parts fault offset (IsClientFault.bad_frame is) =
    whole_faulty (sym (are.0.heard.cut (joined frames)) ∙ ap frame_front (sym parts) ∙ is)
no_fault u (bytes ∷ frames) are parts fault offset (IsClientFault.bad_json {frame} {n} is not_read) =
    ok_err (sym (reads_so bytes (joined frames) are.0 frame n (ap frame_front (sym parts) ∙ is)) ∙ not_read)
no_fault u (bytes ∷ frames) are parts fault offset (IsClientFault.bad_message {frame} {n} is not_read) =
    ok_err (sym (reads_so bytes (joined frames) are.0 frame n (ap frame_front (sym parts) ∙ is)) ∙ not_read)

-- One of them is cut, or one more comes.
cut_by : (pending : List ℕ) (frames : List (List ℕ)) (frame : Frame) (n : ℕ) → AllByRecursion IsHeard frames
    → pending ≡ joined frames → frame_front pending ≡ Front.whole frame n → IsPending (drop n pending)
cut_by pending [] frame n are parts is = absurd (waits_whole (sym front_none ∙ ap frame_front (sym parts) ∙ is))
cut_by pending (bytes ∷ frames) frame n are parts is =
    let size : length bytes ≡ n =
    whole_size (sym (are.0.heard.cut (joined frames)) ∙ ap frame_front (sym parts) ∙ is) in
    record {
      frames = frames;
      are = are.1;
      parts = ap (drop n) parts ∙ drop_at bytes (joined frames) n size;
    }

cut_pending : (pending : List ℕ) (frame : Frame) (n : ℕ) → IsPending pending → frame_front pending ≡ Front.whole frame n
    → IsPending (drop n pending)
cut_pending pending frame n p is = cut_by pending p.frames frame n p.are p.parts is

joined_more : (frames : List (List ℕ)) (bytes : List ℕ) → joined (frames ++ bytes ∷ []) ≡ joined frames ++ bytes
joined_more [] bytes = append-nil bytes
joined_more (frame ∷ frames) bytes =
    ap (λ (more : List ℕ). frame ++ more) (joined_more frames bytes) ∙ sym (append_assoc frame (joined frames) bytes)

all_more : {A : Type 0} (P : A → Type 0) (a b : List A) → AllByRecursion P a → AllByRecursion P b
    → AllByRecursion P (a ++ b)
all_more P [] b are more = more
all_more P (x ∷ a) b are more = (are.0, all_more P a b are.1 more)

all_front : {A : Type 0} (P : A → Type 0) (a b : List A) → AllByRecursion P (a ++ b) → AllByRecursion P a
all_front P [] b are = tt
all_front P (x ∷ a) b are = (are.0, all_front P a b are.1)

all_behind : {A : Type 0} (P : A → Type 0) (a b : List A) → AllByRecursion P (a ++ b) → AllByRecursion P b
all_behind P [] b are = are
all_behind P (x ∷ a) b are = all_behind P a b are.1

fed_pending : (pending bytes : List ℕ) → IsPending pending → IsHeard bytes → IsPending (pending ++ bytes)
fed_pending pending bytes p heard = record {
  frames = p.frames ++ bytes ∷ [];
  are = all_more IsHeard p.frames (bytes ∷ []) p.are (heard, tt);
  parts = ap (λ (front : List ℕ). front ++ bytes) p.parts ∙ sym (joined_more p.frames bytes);
}

-- Sessions ------------------------------------------------------------------------------------------------------------

-- what came of the client is the frame of a request
abbrev IsFine : Entry → Type 0
IsFine (In Client bytes) = IsHeard bytes
IsFine (In Target bytes) = Unit {0}
IsFine (Out side bytes) = Unit {0}
IsFine (Shut side) = Unit {0}
IsFine (Failed side) = Unit {0}
IsFine Quiet = Unit {0}

abbrev AreFine : List Entry → Type 0
AreFine log = AllByRecursion IsFine log

-- the client's uncut bytes
abbrev client_bytes : StreamState → List ℕ
client_bytes streams = streams.client.pending

speaks_pending : {s : SessionState} {message : Message} {side : Side} {bytes : List ℕ} {streams : StreamState}
    → Speaks s message side bytes streams → IsPending (client_bytes s.streams) → IsPending (client_bytes streams)
speaks_pending Speaks.tells p = p
speaks_pending Speaks.greets p = p
speaks_pending (Speaks.sends none serves) p = p

brings_pending : {s : SessionState} {message : Message} {streams : StreamState}
    → Brings s message streams → IsPending (client_bytes s.streams) → IsPending (client_bytes streams)
brings_pending {s} (Brings.hears {frame = frame} {n = n} whole reads) p =
    cut_pending (client_bytes s.streams) frame n p whole
brings_pending (Brings.greeted is) p = p
brings_pending (Brings.packet greeted whole says) p = p
brings_pending (Brings.ends is) p = p
brings_pending (Brings.reads serves is) p = p

comes_pending : {streams next : StreamState} {entry : Entry} → Comes streams entry next → IsFine entry
    → IsPending (client_bytes streams) → IsPending (client_bytes next)
comes_pending {streams} (Comes.piece {bytes = bytes}) fine p = fed_pending (client_bytes streams) bytes p fine
comes_pending Comes.packets fine p = p
comes_pending Comes.ends fine p = p
comes_pending Comes.passes_quiet fine p = p

going_pending : {limits : Limits} {log : List Entry} {messages : List Message} {turns : ℕ} {s : SessionState}
    → Going limits log messages turns s → AreFine log → IsPending (client_bytes s.streams)
going_pending Going.begins fine = record { frames = []; are = tt; parts = refl }
going_pending (Going.goes g on is) fine = going_pending g fine
going_pending (Going.speaks {log = log} g on allows says) fine =
    speaks_pending says (going_pending g (all_front IsFine log _ fine))
going_pending (Going.hears g reads allows brings) fine = brings_pending brings (going_pending g fine)
going_pending (Going.ignores {s = s} {frame = frame} {n = n} g reads whole reading) fine =
    cut_pending (client_bytes s.streams) frame n (going_pending g fine) whole
going_pending (Going.happens {log = log} {entry = entry} g listens comes) fine =
    comes_pending comes (all_behind IsFine log (entry ∷ []) fine).0
    (going_pending g (all_front IsFine log (entry ∷ []) fine))

-- Requests are few ----------------------------------------------------------------------------------------------------

-- how many pieces came of the client
abbrev one_piece : Entry → ℕ
one_piece (In Client bytes) = 1
one_piece (In Target bytes) = 0
one_piece (Out side bytes) = 0
one_piece (Shut side) = 0
one_piece (Failed side) = 0
one_piece Quiet = 0

abbrev pieces : List Entry → ℕ
pieces [] = 0
pieces (entry ∷ log) = one_piece entry + pieces log

pieces_more : (log more : List Entry) → pieces (log ++ more) ≡ pieces log + pieces more
pieces_more [] more = omega arith
pieces_more (entry ∷ log) more = omega (arith, pieces_more log more)

at_most_one : (entry : Entry) → one_piece entry ≤ 1
at_most_one (In Client bytes) = omega arith
at_most_one (In Target bytes) = omega arith
at_most_one (Out side bytes) = omega arith
at_most_one (Shut side) = omega arith
at_most_one (Failed side) = omega arith
at_most_one Quiet = omega arith

-- each piece took a turn
going_pieces : {limits : Limits} {log : List Entry} {messages : List Message} {turns : ℕ} {s : SessionState}
    → Going limits log messages turns s → pieces log ≤ turns
going_pieces Going.begins = omega arith
going_pieces (Going.goes g on is) = going_pieces g
going_pieces (Going.speaks {log = log} {side = side} {bytes = bytes} g on allows says) =
    omega (arith, pieces_more log (Out side bytes ∷ []), going_pieces g)
going_pieces (Going.hears g reads allows brings) = going_pieces g
going_pieces (Going.ignores g reads whole reading) = going_pieces g
going_pieces (Going.happens {log = log} {entry = entry} g listens comes) =
    omega (arith, pieces_more log (entry ∷ []), at_most_one entry, going_pieces g)

going_turns : {limits : Limits} {log : List Entry} {messages : List Message} {turns : ℕ} {s : SessionState}
    → Going limits log messages turns s → turns ≤ limits.turns
going_turns Going.begins = omega arith
going_turns (Going.goes g on is) = going_turns g
going_turns (Going.speaks g on allows says) = going_turns g
going_turns (Going.hears g reads allows brings) = going_turns g
going_turns (Going.ignores g reads whole reading) = going_turns g
going_turns (Going.happens g listens comes) = let more = listens.more_turns in omega (arith, more)

-- Talks ---------------------------------------------------------------------------------------------------------------

-- what came of the client before a place is the frames of its requests
talks_fine : (most : ℕ) (c c' : Conversation) (a b : List Entry) → IsInBounds most c → most + pieces a < 2 ^ 53
    → Talks c (a ++ b) c' → AreFine a
talks_fine most c c' [] b bounds few talks = tt
talks_fine most c c' (In Client frame ∷ a) b bounds few talks = (
  record { request = request_meant c; heard = each_read most c frame (omega (arith, few)) bounds talks.0 },
  talks_fine (most + 1) (asked c) c' a b (asked_in most c bounds) (omega (arith, few)) talks.1,
)
talks_fine most c c' (In Target bytes ∷ a) b bounds few talks = (tt, talks_fine most c c' a b bounds (omega (arith, few)) talks)
talks_fine most c c' (Out Client frame ∷ a) b bounds few talks =
    (tt, talks_fine most (heard frame c) c' a b (heard_in most c frame bounds) (omega (arith, few)) talks)
talks_fine most c c' (Out Target bytes ∷ a) b bounds few talks = (tt, talks_fine most c c' a b bounds (omega (arith, few)) talks)
talks_fine most c c' (Shut Client ∷ a) b bounds few talks = absurd talks
talks_fine most c c' (Shut Target ∷ a) b bounds few talks = (tt, talks_fine most c c' a b bounds (omega (arith, few)) talks)
talks_fine most c c' (Failed Client ∷ a) b bounds few talks = absurd talks
talks_fine most c c' (Failed Target ∷ a) b bounds few talks = (tt, talks_fine most c c' a b bounds (omega (arith, few)) talks)
talks_fine most c c' (Quiet ∷ a) b bounds few talks = (tt, talks_fine most c c' a b bounds (omega (arith, few)) talks)

-- Endings -------------------------------------------------------------------------------------------------------------

-- no cause is a fault of such bytes
cause_bad : {limits : Limits} {turns : ℕ} {s : SessionState} {ending : Ending} {entries : List Entry} {taken : ℕ}
    → Cause limits turns s ending entries taken → IsPending (client_bytes s.streams) → (fault : ClientFault) (offset : ℕ)
    → ¬ (ending ≡ BadClient fault offset)
cause_bad (Cause.over on act) p fault offset is = cc
cause_bad (Cause.one_thread on act) p fault offset is = cc
cause_bad (Cause.shut listens) p fault offset is = cc
cause_bad (Cause.lost Client listens) p fault offset is = cc
cause_bad (Cause.lost Target listens) p fault offset is = cc
cause_bad (Cause.broken {side = Client} on allows speaks less) p fault offset is = cc
cause_bad (Cause.broken {side = Target} on allows speaks less) p fault offset is = cc
cause_bad {s = s} (Cause.misread {fault = found} {offset = at} reads has) p fault offset is =
    no_fault s.streams.client p.frames p.are p.parts found at has
cause_bad (Cause.misheard reads has) p fault offset is = cc
cause_bad (Cause.misheard_kept reads has) p fault offset is = cc
cause_bad (Cause.refused reads has more not_) p fault offset is = cc
cause_bad (Cause.flood more) p fault offset is = cc
cause_bad (Cause.idle waits more quiet) p fault offset is = cc
cause_bad (Cause.spent waits all) p fault offset is = cc

pub left_bad : {limits : Limits} {log : List Entry} {messages : List Message} {turns : ℕ} {ending : Ending}
    → AreLimits limits → IsLeft limits log messages turns ending → (c' : Conversation) → Talks start log c'
    → (fault : ClientFault) (offset : ℕ) → ¬ (ending ≡ BadClient fault offset)
left_bad are (IsLeft.ended h none) c' talks fault offset is =
    cause_bad h.cause (going_pending h.going (talks_fine 1 start c' h.before (h.by_cause ++ h.by_words) start_in few
    (subst (λ (entries : List Entry). Talks start entries c')
    (h.log_is ∙ append_assoc h.before h.by_cause h.by_words) talks))) fault offset is
  where
    few : 1 + pieces h.before < 2 ^ 53
    few = let most = are.few_turns in omega (arith, most, going_pieces h.going, going_turns h.going)
left_bad are (IsLeft.no_memory going) c' talks fault offset is = cc
left_bad are (IsLeft.no_memory_then ended) c' talks fault offset is = cc

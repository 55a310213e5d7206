-- Waits in vain stand side by side in the log: where the session waits nothing else goes on.
use Rattle.std.proofs.Common.{◌≡◌, ◌⊎◌, inl, inr, ℕ, ◌+◌, Bool, true, false, List, [], ◌∷◌, ◌++◌, Option, Some, None}
use Rattle.std.proofs.Common.{refl, sym, ap, ◌∙◌, append_assoc, append-nil}
use Rattle.std.specs.Prelude.{replicate}
use Rattle.std.proofs.lemmas.List.{replicate_more}
use Rattle.dap_frames.specs.Frames.{Frame, frame_front}
use Rattle.machine_model.specs.Due.{Load, asked_first, asked_next, busy, can_read, clear, due, due_by, is_full}
use Rattle.machine_model.specs.Due.{lacking_more, load_of, queued, waiting}
use Rattle.machine_model.specs.Plans.{question_of}
use Rattle.machine_model.specs.Runs.{Allows, Message, said}
use Rattle.machine_model.specs.State.{Hand, Machine}
use Rattle.machine_steps.proofs.Stepping.{Loses, Moves, moved}
use Rattle.session_model.specs.Names.{a_question, Act, Composite, Entry, Limits, Question, Quiet, Side, Want}
use Rattle.session_model.specs.Causes.{IsWaiting}
use Rattle.session_model.specs.Saying.{Brings, Speaks}
use Rattle.session_model.specs.Session.{Going, Comes, quiets_after}
use Rattle.session_model.specs.States.{SessionState, StreamState, due_now, id_pending}
use Rattle.session_laws.proofs.HearLaws.{closing_by, was_open}
use Rattle.wire_core.specs.Streams.{Front}

-- What is due while the next id is pending ----------------------------------------------------------------------------

-- the same as else, unless a question is due
abbrev Same : Act → Act → Type 0
Same now alone = (now ≡ alone) ⊎ ((question : Question) × (alone ≡ Act.Asks question))

first_same : (full : Bool) (m : Machine) (wants : List Want)
    → Same (asked_first true m wants).act (asked_first full m wants).act
first_same full m [] = inl refl
first_same true m (want ∷ wants) = inl refl
first_same false m (want ∷ wants) = inr (question_of want, refl)

next_same : (full : Bool) (m : Machine) (hand : Option Hand)
    → Same (asked_next true m hand).act (asked_next full m hand).act
next_same full m None = inl refl
next_same full m (Some hand) = first_same full m hand.queue

load_same : (full : Bool) (m : Machine) (load : Load) → Same (due_by true load m).act (due_by full load m).act
load_same full m busy = inl refl
load_same full m queued = next_same full m m.hand
load_same full m lacking_more = inl refl
load_same full m waiting = inl refl
load_same full m clear = inl refl

pub due_same : (pending : Bool) (m : Machine) → Same (due pending m).act (due false m).act
unfolding due
due_same false m = inl refl
due_same true m = load_same (is_full false m) m (load_of m)

-- What can't go on where the session waits ----------------------------------------------------------------------------

no_step : {now alone : Act} → Same now alone → now ≡ Act.Waits → alone ≡ Act.Goes → ⊥
no_step (inl same) waits goes = let no : Act.Waits ≡ Act.Goes = sym waits ∙ same ∙ goes in cc
no_step (inr (question, asks)) waits goes = let no : Act.Asks question ≡ Act.Goes = sym asks ∙ goes in cc

abbrev is_question : Message → Bool
is_question (Message.sends (a_question question)) = true
is_question _ = false

no_message : {now alone : Act} (message : Message) → is_question message ≡ false → Same now alone → now ≡ Act.Waits
    → said alone ≡ Some message → ⊥
no_message message other (inl same) waits is =
    let no : None ≡ Some message = ap said (sym waits ∙ same) ∙ is in cc
no_message message other (inr (question, asks)) waits is =
    let no : Some (Message.sends (a_question question)) ≡ Some message = ap said (sym asks) ∙ is in
    let yes : true ≡ is_question message = ap of_some no in
    let never : true ≡ false = yes ∙ other in cc
  where
    of_some : Option Message → Bool
    of_some None = false
    of_some (Some message) = is_question message

nothing_alone : (s : SessionState) (message : Message) → id_pending s.streams.commands ≡ false
    → (due_now s).act ≡ Act.Waits → said (due false s.machine).act ≡ Some message → ⊥
nothing_alone s message apart waits is =
    let no : None ≡ Some message = ap said (sym waits ∙ ap (λ pending. (due pending s.machine).act) apart) ∙ is in cc

not_framed : (s : SessionState) {frame : Frame} {n : ℕ} → s.machine.closing ≡ false
    → frame_front s.streams.client.pending ≡ Front.whole frame n
    → (s.machine.closing ≡ true) ⊎ (frame_front s.streams.client.pending ≡ Front.waits) → ⊥
not_framed s is_open whole (inl closing) = cc
not_framed s is_open whole (inr waits) = cc

not_speaking : {limits : Limits} {s : SessionState} {message : Message} {next : Machine} {side : Side} {bytes : List ℕ}
    {streams : StreamState} → Speaks s message side bytes streams → Allows s.machine message next
    → IsWaiting limits s → ⊥
not_speaking {s} {message} Speaks.tells (Allows.acts is) w =
    no_message message refl (due_same (id_pending s.streams.commands) s.machine) w.reads.reads.nothing_due is
not_speaking {s} {message} Speaks.greets (Allows.acts is) w =
    no_message message refl (due_same (id_pending s.streams.commands) s.machine) w.reads.reads.nothing_due is
not_speaking {s} {message} (Speaks.sends apart serves) (Allows.acts is) w =
    nothing_alone s message apart w.reads.reads.nothing_due is

-- a handshake is taken up once, and a composite is read where one can be
greeted_first : {m next : Machine} {said : Option Message} → said ≡ Some Message.greeted → Moves m said next
    → m.state.greeting_heard ≡ false
greeted_first is (Moves.greeted read first) = first
greeted_first is (Moves.loses late near Loses.by_end) = cc
greeted_first is (Moves.loses late near (Loses.by_question held waits reply last)) = cc
greeted_first is (Moves.loses late near (Loses.by_effect held flying reply last)) = cc
greeted_first is _ = cc

can_be_read : {m next : Machine} {said : Option Message} (at : ℕ) (body : List ℕ) (composite : Composite)
    → said ≡ Some (Message.reads at body composite) → Moves m said next → can_read m ≡ true
can_be_read at body composite is (Moves.reads before after read waits none taken) = read
can_be_read at body composite is (Moves.loses late near Loses.by_end) = cc
can_be_read at body composite is (Moves.loses late near (Loses.by_question held waits reply last)) = cc
can_be_read at body composite is (Moves.loses late near (Loses.by_effect held flying reply last)) = cc
can_be_read at body composite is _ = cc

not_hearing : {limits : Limits} {s : SessionState} {message : Message} {next : Machine} {streams : StreamState}
    → Brings s message streams → Allows s.machine message next → IsWaiting limits s → ⊥
not_hearing {s} (Brings.hears {request} whole reading) allows w =
    not_framed s (was_open (request ∷ []) refl (closing_by (moved allows))) whole w.no_frame
not_hearing (Brings.greeted came) allows w =
    let first = greeted_first refl (moved allows) in
    let taken = w.reads.greeted in cc
not_hearing (Brings.packet heard whole says) allows w = let none = w.no_packet in cc
not_hearing (Brings.ends came) allows w = let none = w.not_ended in cc
not_hearing (Brings.reads {at} {body} {composite} serves reads) allows w =
    let can = can_be_read at body composite refl (moved allows) in
    let none = w.reads.none_to_read in cc

-- Waits in a row ------------------------------------------------------------------------------------------------------

-- the log ends with so many waits in vain
pub record EndsQuiet (log : List Entry) (count : ℕ) : Type 0 where
  pub before : List Entry
  pub log_is : log ≡ before ++ replicate count Quiet

-- the last thing that came was something, or the session waits and its last waits were in vain
data Counts (limits : Limits) (log : List Entry) (s : SessionState) : Type 0 where
  nothing : s.quiets ≡ 0 → Counts limits log s
  in_a_row : IsWaiting limits s → EndsQuiet log s.quiets → Counts limits log s

-- a rule that goes on only where the session doesn't wait
loud : {limits : Limits} {log more : List Entry} {s : SessionState} (next : SessionState) → (IsWaiting limits s → ⊥)
    → next.quiets ≡ s.quiets → Counts limits log s → Counts limits more next
loud next goes_on same (Counts.nothing none) = Counts.nothing (same ∙ none)
loud next goes_on same (Counts.in_a_row waits quiet) = absurd (goes_on waits)

-- one more wait in vain
one_more : {limits : Limits} {log : List Entry} {s : SessionState} → Counts limits log s
    → EndsQuiet (log ++ Quiet ∷ []) (s.quiets + 1)
one_more {log} {s} (Counts.nothing none) =
    record { before = log; log_is = ap (λ (n : ℕ). log ++ replicate (n + 1) Quiet) (sym none) }
one_more {log} {s} (Counts.in_a_row waits quiet) = record {
  before = quiet.before;
  log_is = ap (λ (log : List Entry). log ++ Quiet ∷ []) quiet.log_is
      ∙ append_assoc quiet.before (replicate s.quiets Quiet) (Quiet ∷ [])
      ∙ ap (λ (last : List Entry). quiet.before ++ last) (replicate_more s.quiets Quiet);
}

still_waits : {limits : Limits} {s : SessionState} (n : ℕ) → IsWaiting limits s
    → IsWaiting limits (record s { quiets = n })
still_waits n w = record {
  reads = record {
    reads = record {
      nothing_due = w.reads.reads.nothing_due;
      on = record { no_flood = w.reads.reads.on.no_flood };
    };
    none_to_read = w.reads.none_to_read;
    greeted = w.reads.greeted;
  };
  no_frame = w.no_frame;
  no_packet = w.no_packet;
  not_ended = w.not_ended;
}

counts_then : {limits : Limits} {log : List Entry} {s : SessionState} {entry : Entry} {streams : StreamState}
    → IsWaiting limits s → Comes s.streams entry streams → Counts limits log s
    → Counts limits (log ++ entry ∷ []) (record s { streams = streams; quiets = quiets_after entry s.quiets })
counts_then waits Comes.piece h = Counts.nothing refl
counts_then waits Comes.packets h = Counts.nothing refl
counts_then waits Comes.ends h = Counts.nothing refl
counts_then waits Comes.passes_quiet h = Counts.in_a_row (still_waits _ waits) (one_more h)

counts : {limits : Limits} {log : List Entry} {messages : List Message} {turns : ℕ} {s : SessionState}
    → Going limits log messages turns s → Counts limits log s
counts Going.begins = Counts.nothing refl
counts (Going.goes {s} g on is) =
    loud _ (λ w. no_step (due_same (id_pending s.streams.commands) s.machine) w.reads.reads.nothing_due is) refl
    (counts g)
counts (Going.speaks g on allows speaks) = loud _ (not_speaking speaks allows) refl (counts g)
counts (Going.hears g reads allows brings) = loud _ (not_hearing brings allows) refl (counts g)
counts (Going.ignores {s} g reads whole reading) =
    loud _ (λ w. not_framed s reads.is_open whole w.no_frame) refl (counts g)
counts (Going.happens g listens comes) = counts_then listens.waits comes (counts g)

-- Where a session goes on, the last that came were as many waits in vain as it counts.
pub quiet_so : {limits : Limits} {log : List Entry} {messages : List Message} {turns : ℕ} {s : SessionState}
    → Going limits log messages turns s → EndsQuiet log s.quiets
quiet_so {log} {s} g = ends_quiet (counts g)
  where
    ends_quiet : {limits : Limits} → Counts limits log s → EndsQuiet log s.quiets
    ends_quiet (Counts.nothing none) = record {
      before = log;
      log_is = sym (append-nil log) ∙ ap (λ (n : ℕ). log ++ replicate n Quiet) (sym none);
    }
    ends_quiet (Counts.in_a_row waits quiet) = quiet

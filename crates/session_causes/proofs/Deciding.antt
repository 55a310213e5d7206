-- The first cause decides, and one alone.
use Rattle.std.proofs.Common.{◌≡◌, ◌<◌, ◌+◌, ℕ, Bool, true, false, List, [], ◌∷◌, Option, None, Some, Ok}
use Rattle.std.proofs.Common.{refl, sym, ap, subst, ◌∙◌, arith}
use Rattle.dap_frames.specs.Frames.{Frame, frame_front}
use Rattle.dap_messages.specs.Reading.{reading_of}
use Rattle.dap_messages.specs.declared.requests.Incoming.{Incoming}
use Rattle.jdwp_commands.specs.Answers.{answer_at}
use Rattle.jdwp_events.specs.Composites.{composite_at}
use Rattle.jdwp_values.specs.declared.sizes.IdSizes.{IdSizes}
use Rattle.machine_model.specs.Due.{can_read}
use Rattle.machine_model.specs.Replying.{IsReply, SizesFor, wire}
use Rattle.machine_model.specs.Runs.{Message}
use Rattle.machine_model.specs.State.{Machine, is_some}
use Rattle.session_causes.proofs.Acts.{IsFirst, Lets, goes_now, lets, speaks_now, unread}
use Rattle.session_causes.proofs.Sides.{IsOneSided, both_idle, client_alone, one_sided, target_idle}
use Rattle.session_causes.proofs.Troubles.{Bars, Trouble, busy, client_faulty, client_reads, no_cause, not_over}
use Rattle.session_causes.proofs.Troubles.{one_plain, plain, read_twice, waiting}
use Rattle.session_causes.proofs.Verdicts.{Sentence, Verdict, answer_ending, client_ending, client_ends}
use Rattle.session_causes.proofs.Verdicts.{composite_ending, composite_ends, composite_judged, first_is, first_kept}
use Rattle.session_causes.proofs.Verdicts.{frame_ending}
use Rattle.session_causes.proofs.Verdicts.{good_sizes, kept_ending, kept_ends, own_sizes, reply_judged, some_front}
use Rattle.session_causes.proofs.Verdicts.{tolerated_so, verdict}
use Rattle.session_causes.specs.Deciding.{NoCause, NonePassed}
use Rattle.session_laws.specs.Laws.{Alike}
use Rattle.session_laws.specs.Replies.{AreReadAlike}
use Rattle.session_model.specs.Causes.{Cause, IsWaiting, ReadsClient, ReadsOn}
use Rattle.session_model.specs.Faults.{IsClientFault, IsKeptFault}
use Rattle.session_model.specs.Names.{ClientFault, Composite, Ending, Entry, Limits, Replied, TargetCommand}
use Rattle.session_model.specs.Names.{TargetFault}
use Rattle.session_model.specs.Saying.{Brings, PacketSays, SaysReply}
use Rattle.session_model.specs.Session.{Going}
use Rattle.session_model.specs.States.{SessionState, StreamState}
use Rattle.wire_core.specs.Streams.{Front, Uncut}

-- Small words ---------------------------------------------------------------------------------------------------------

not_whole : {M F : Type 0} {front : Front M F} {m : M} {n : ℕ} → front ≡ Front.whole m n → front ≡ Front.waits → ⊥
not_whole whole waits = cc

no_ending : {ending : Ending} {found : Option Ending} → found ≡ None → found ≡ Some ending → ⊥
no_ending none some = cc

no_error : {error : ℕ} → error ≡ 0 → 0 < error → ⊥
no_error none some = omega (arith, none, some)

unheard : {heard greeted : Bool} → greeted ≡ true → heard ≡ false → heard ≡ greeted → ⊥
unheard came first same = cc

-- What is read well ---------------------------------------------------------------------------------------------------

-- a frame that reads so has no fault
frame_well : {u : Uncut} {frame : Frame} {n : ℕ} {incoming : Incoming} {fault : ClientFault} {offset : ℕ}
    → frame_front u.pending ≡ Front.whole frame n → reading_of frame.body ≡ Ok incoming
    → IsClientFault u fault offset → ⊥
frame_well {u} {frame} whole reading bad =
    no_ending (ap (λ front. client_ending u.at front) whole
    ∙ ap (λ read. frame_ending read (u.at + frame.header)) reading) (client_ends bad)

-- and nothing else ends the session beside it
client_well : {s : SessionState} {frame : Frame} {n : ℕ} {incoming : Incoming} {ending : Ending} → IsOneSided s
    → can_read s.machine ≡ false → s.machine.closing ≡ false
    → frame_front s.streams.client.pending ≡ Front.whole frame n → reading_of frame.body ≡ Ok incoming
    → Trouble s ending → ⊥
client_well sided read is_open whole reading (Trouble.of_client none opens bad) = frame_well whole reading bad
client_well {s} sided read is_open whole reading (Trouble.of_target none greeted sentence) =
    some_front sentence (target_idle sided (client_alone s is_open (not_whole whole))).0.front
client_well sided read is_open whole reading (Trouble.of_kept k) = read_twice read k.can_be_read

-- a reply that is taken ends nothing
answered_well : {s : SessionState} {id error : ℕ} {body : List ℕ} {command : TargetCommand} {replied : Replied}
    {ending : Ending} → AreReadAlike s → IsReply s.machine.state.sizes command replied
    → SaysReply s.machine.state.sizes command error body replied
    → Sentence s (Verdict.of_reply id (wire command) error body) ending → ⊥
answered_well {s} {id} {body = body} {command} alike (IsReply.with_answer some fit fits good)
    (SaysReply.answers {answer} {used} serves reads) (Sentence.by_answer other also same none under serve ends) =
    no_ending (ap (λ asked. answer_ending s.streams.target.stream.at (answer_at also asked body)) (sym same)
    ∙ ap (λ read. answer_ending s.streams.target.stream.at read)
    (alike id command body also used (under ∙ ap (λ asked. Some asked) (sym same)) serve serves ∙ reads)
    ∙ good_sizes s.streams.target.stream.at answer good) ends
answered_well alike (IsReply.with_answer some fit fits good) (SaysReply.answers serves reads)
    (Sentence.by_error more tolerated) = no_error refl more
answered_well alike (IsReply.with_error some tolerated) (SaysReply.refuses more)
    (Sentence.by_answer other also same none under serve ends) = no_error none more
answered_well {error = error} {command = command} alike (IsReply.with_error some tolerated) (SaysReply.refuses more)
    (Sentence.by_error again never) =
    let no : true ≡ false = sym tolerated ∙ tolerated_so command error ∙ never in cc

-- nor does a composite that is read
composite_well : {s : SessionState} {used : IdSizes} {composite : Composite} {body : List ℕ} {ending : Ending}
    → SizesFor s.machine.state.sizes used → composite_at used body ≡ Ok composite
    → Sentence s (Verdict.of_composite body) ending → ⊥
composite_well {s} {used} serves reads (Sentence.by_composite bad) =
    no_ending (ap (λ read. composite_ending s.streams.target.stream.at read) reads) (composite_ends bad used serves)

-- before the sizes of ids are known none is refused
unsized_well : {s : SessionState} {body : List ℕ} {ending : Ending} → is_some s.machine.state.sizes ≡ false
    → Sentence s (Verdict.of_composite body) ending → ⊥
unsized_well none (Sentence.by_composite bad) = let no : true ≡ false = sym (ap is_some (own_sizes bad).1) ∙ none in cc

-- one that was kept
kept_well : {m : Machine} {used : IdSizes} {composite : Composite} {at : ℕ} {body : List ℕ} {fault : TargetFault}
    {offset : ℕ} → IsFirst m at body → SizesFor m.state.sizes used → composite_at used body ≡ Ok composite
    → IsKeptFault m fault offset → ⊥
kept_well {used = used} {at = at} {body} first serves reads k =
    no_ending (ap (λ items. kept_ending used (first_kept items)) first.waiting
    ∙ ap (λ found. kept_ending used found) (first_is first.before first.after at body first.is_first)
    ∙ ap (λ read. composite_ending at read) reads) (kept_ends k used serves)

-- What is heard -------------------------------------------------------------------------------------------------------

judged_so : {s : SessionState} {found : Verdict} {ending : Ending} → verdict s ≡ found
    → Sentence s (verdict s) ending → Sentence s found ending
judged_so {s} {ending = ending} is sentence = subst (λ found. Sentence s found ending) is sentence

heard_well : {s : SessionState} {message : Message} {streams : StreamState} {ending : Ending} → AreReadAlike s
    → IsOneSided s → Brings s message streams → Lets s.machine message → Trouble s ending → ⊥
heard_well alike sided (Brings.hears whole reading) may trouble =
    client_well sided may.0 may.1 whole reading trouble
heard_well alike sided (Brings.greeted came) may (Trouble.of_client read is_open bad) =
    unheard came may.1 (client_faulty sided is_open bad).0.greeted
heard_well alike sided (Brings.greeted came) may (Trouble.of_target read greeted sentence) = unheard came may.1 greeted
heard_well alike sided (Brings.greeted came) may (Trouble.of_kept k) = read_twice may.0 k.can_be_read
heard_well alike sided (Brings.packet heard whole says) may (Trouble.of_client read is_open bad) =
    not_whole whole (client_faulty sided is_open bad).0.front
heard_well {s} alike sided
    (Brings.packet {n = n} heard whole (PacketSays.answers {id} {error} {body} {command} under says)) may
    (Trouble.of_target read greeted sentence) =
    answered_well alike may.1 says (judged_so (reply_judged s id error n body (wire command) whole under) sentence)
heard_well {s} alike sided
    (Brings.packet {n = n} heard whole (PacketSays.comes {id} {set} {number} {body} is serves reads)) may
    (Trouble.of_target read greeted sentence) =
    composite_well serves reads (judged_so (composite_judged s id set number n body whole is) sentence)
heard_well {s} alike sided (Brings.packet {n = n} heard whole (PacketSays.keeps {id} {set} {number} {body} is)) may
    (Trouble.of_target read greeted sentence) =
    unsized_well may (judged_so (composite_judged s id set number n body whole is) sentence)
heard_well alike sided (Brings.packet heard whole (PacketSays.answers under says)) may (Trouble.of_kept k) =
    read_twice may.0 k.can_be_read
heard_well alike sided (Brings.packet heard whole (PacketSays.comes is serves reads)) may (Trouble.of_kept k) =
    read_twice may k.can_be_read
heard_well {s} alike sided (Brings.packet heard whole (PacketSays.keeps is)) may (Trouble.of_kept k) =
    read_twice (unread s.machine may) k.can_be_read
heard_well {s} alike sided (Brings.ends came) may (Trouble.of_client read is_open bad) =
    client_alone s is_open (client_reads bad) (both_idle sided came).0
heard_well alike sided (Brings.ends came) may (Trouble.of_target read greeted sentence) =
    some_front sentence (both_idle sided came).1.front
heard_well alike sided (Brings.ends came) may (Trouble.of_kept k) = read_twice may k.can_be_read
heard_well alike sided (Brings.reads serves reads) may (Trouble.of_client read is_open bad) =
    read_twice read may.can_be_read
heard_well alike sided (Brings.reads serves reads) may (Trouble.of_target read greeted sentence) =
    read_twice read may.can_be_read
heard_well alike sided (Brings.reads serves reads) may (Trouble.of_kept k) = kept_well may serves reads k

-- what is there to take up is no wait
heard_first : {limits : Limits} {s : SessionState} {message : Message} {streams : StreamState}
    → Brings s message streams → Lets s.machine message → IsWaiting limits s → ⊥
heard_first {s = s} (Brings.hears whole reading) may w = client_alone s may.1 (not_whole whole) w.no_frame
heard_first (Brings.greeted came) may w = unheard came may.1 w.reads.greeted
heard_first (Brings.packet heard whole says) may w = not_whole whole w.no_packet
heard_first (Brings.ends came) may w = read_twice w.not_ended came
heard_first (Brings.reads serves reads) may w = read_twice w.reads.none_to_read may.can_be_read

hears : {limits : Limits} {turns : ℕ} {s : SessionState} {message : Message} {streams : StreamState}
    → AreReadAlike s → IsOneSided s → ReadsOn limits s → Brings s message streams → Lets s.machine message
    → Bars limits turns s
hears {s = s} alike sided r brings may = record {
  on = r.on;
  goes_on = not_over s r.nothing_due;
  untroubled = λ ending also trouble. heard_well alike sided brings may trouble;
  untired = λ ending w tired. heard_first brings may w;
}

passes_over : {limits : Limits} {turns : ℕ} {s : SessionState} {frame : Frame} {n : ℕ} {incoming : Incoming}
    → IsOneSided s → ReadsClient limits s → frame_front s.streams.client.pending ≡ Front.whole frame n
    → reading_of frame.body ≡ Ok incoming → Bars limits turns s
passes_over {s = s} sided r whole reading = record {
  on = r.reads.on;
  goes_on = not_over s r.reads.nothing_due;
  untroubled = λ ending also trouble. client_well sided r.none_to_read r.is_open whole reading trouble;
  untired = λ ending w tired. client_alone s r.is_open (not_whole whole) w.no_frame;
}

-- The laws ------------------------------------------------------------------------------------------------------------

pub first_decides : Alike → {limits : Limits} {log : List Entry} {messages : List Message} {turns : ℕ}
    {s : SessionState} (g : Going limits log messages turns s) → NonePassed g
first_decides alike Going.begins = tt
first_decides alike (Going.goes {s = s} g on is) = (first_decides alike g, no_cause (busy on (goes_now s is)))
first_decides alike (Going.speaks g on allows says) =
    (first_decides alike g, no_cause (busy on (speaks_now allows says)))
first_decides alike (Going.hears {log} {messages} {turns} {s} g r allows brings) =
    (first_decides alike g, no_cause (hears (alike _ log messages turns s g) (one_sided g) r brings (lets allows)))
first_decides alike (Going.ignores g r whole reading) =
    (first_decides alike g, no_cause (passes_over (one_sided g) r whole reading))
first_decides alike (Going.happens g listens comes) =
    (first_decides alike g, no_cause (waiting listens.waits listens.more_turns listens.patient))

pub one_decides : Alike → {limits : Limits} {log : List Entry} {messages : List Message} {turns : ℕ}
    {s : SessionState} {one other : Ending} → Going limits log messages turns s → Cause limits turns s one [] 0
    → Cause limits turns s other [] 0 → one ≡ other
one_decides alike {limits} {log} {messages} {turns} {s} g first second =
    one_plain (alike limits log messages turns s g) (one_sided g) (plain first refl) (plain second refl)

-- what the outside ends waits for no other cause
pub outside_last : {limits : Limits} {turns : ℕ} {s : SessionState} {ending : Ending} {entry : Entry}
    {entries all : List Entry} {taken : ℕ} → Cause limits turns s ending all taken → all ≡ entry ∷ entries
    → NoCause limits turns s
outside_last (Cause.shut listens) is = no_cause (waiting listens.waits listens.more_turns listens.patient)
outside_last (Cause.lost side listens) is = no_cause (waiting listens.waits listens.more_turns listens.patient)
outside_last (Cause.broken on allows says proper) is = no_cause (busy on (speaks_now allows says))
outside_last _ is = cc

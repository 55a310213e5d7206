-- What stands at the front of a side's bytes decides which fault it is, and one alone.
use Rattle.std.proofs.Common.{◌≡◌, ◌<◌, ◌+◌, ◌*◌, ℕ, Bool, true, false, cond, List, [], ◌∷◌, ◌++◌, Option, None, Some}
use Rattle.std.proofs.Common.{Result, Ok, Err, refl, sym, ap, subst, ◌∙◌, arith}
use Rattle.std.specs.Prelude.{position, ◌==◌}
use Rattle.dap_frames.specs.Frames.{Frame, frame_front}
use Rattle.dap_frames.specs.declared.fault.FrameFault.{FrameFault}
use Rattle.dap_messages.specs.Reading.{reading_of}
use Rattle.dap_messages.specs.declared.requests.Incoming.{Incoming}
use Rattle.dap_messages.specs.declared.requests.ReadFault.{ReadFault}
use Rattle.dap_messages.specs.declared.requests.ReadFault.TheVariants.{NoMemory as no_memory, NotJson as no_json}
use Rattle.dap_messages.specs.declared.requests.ReadFault.TheVariants.{NotAMessage as no_message}
use Rattle.jdwp_commands.specs.Answers.{answer_at}
use Rattle.jdwp_commands.specs.Commands.{number_of}
use Rattle.jdwp_commands.specs.declared.answer.Answer.TheVariants as answers
use Rattle.jdwp_commands.specs.declared.asked.Asked.{Asked}
use Rattle.jdwp_commands.specs.declared.asked.Asked.TheVariants as commands
use Rattle.jdwp_commands.specs.declared.effect.Effect.TheVariants as effects
use Rattle.jdwp_commands.specs.declared.fault.BodyFault.{BodyFault}
use Rattle.jdwp_commands.specs.declared.fault.BodyFault.TheVariants as body_faults
use Rattle.jdwp_events.specs.Composites.{composite_at}
use Rattle.jdwp_events.specs.declared.composite.CompositeFault.{CompositeFault}
use Rattle.jdwp_events.specs.declared.composite.CompositeFault.TheVariants as composite_faults
use Rattle.jdwp_packets.specs.Packets.{Packet, command_packet, reply_packet}
use Rattle.jdwp_packets.specs.declared.fault.PacketFault.{PacketFault}
use Rattle.jdwp_values.specs.Sizes.{is_no_size}
use Rattle.jdwp_values.specs.declared.sizes.IdSizes.{IdSizes}
use Rattle.machine_model.specs.Replying.{SizesFor, has_good_sizes, is_essential, is_essential_question, is_tolerated}
use Rattle.machine_model.specs.Replying.{sizes_of, sizes_read, wire}
use Rattle.machine_model.specs.State.{Machine, SizesRead, has_raw, is_some}
use Rattle.pending_table.specs.Windows.{pending_under}
use Rattle.session_laws.proofs.SizeLaws.{one_read}
use Rattle.session_laws.specs.Replies.{AreReadAlike}
use Rattle.session_model.specs.Faults.{HasAnswer, HasReply, IsBodyFault, IsClientFault, IsCompositeFault, IsKeptFault}
use Rattle.session_model.specs.Faults.{IsTargetFault, RefusesComposite, numbers_in}
use Rattle.session_model.specs.Names.{a_composite, a_question, a_raw, a_request, an_effect, Answer, BadClient}
use Rattle.session_model.specs.Names.{BadCommand, BadCount, BadKind, BadPolicy, BadSizes, BadTag, BadTarget, Clear}
use Rattle.session_model.specs.Names.{ClientFault, Composite, Dispose, Does, Ending, Exit, Item, misframed, mispacked}
use Rattle.session_model.specs.Names.{NotAMessage, NotJson, Resume, Set, Short, Suspend, target_end, TargetCommand}
use Rattle.session_model.specs.Names.{TargetFault, TargetRefused, Trailing, UnknownReply, Writes}
use Rattle.session_model.specs.Saying.{is_composite}
use Rattle.session_model.specs.States.{SessionState, target_front}
use Rattle.target_bodies.specs.Hearing.{header}
use Rattle.wire_core.specs.Streams.{Front, Uncut}

-- The client's bytes --------------------------------------------------------------------------------------------------

-- the ending by a frame whose body begins here
abbrev pub frame_ending : Result Incoming ReadFault → ℕ → Option Ending
frame_ending (Ok incoming) at = None
frame_ending (Err no_memory) at = None
frame_ending (Err no_json) at = Some (BadClient NotJson at)
frame_ending (Err no_message) at = Some (BadClient NotAMessage at)

-- the ending by what stands at the front
abbrev pub client_ending : ℕ → Front Frame FrameFault → Option Ending
client_ending at Front.waits = None
client_ending at (Front.whole frame n) = frame_ending (reading_of frame.body) (at + frame.header)
client_ending at (Front.faulty fault distance) = Some (BadClient (misframed fault) (at + distance))

pub client_ends : {u : Uncut} {fault : ClientFault} {offset : ℕ} → IsClientFault u fault offset
    → client_ending u.at (frame_front u.pending) ≡ Some (BadClient fault offset)
client_ends {u} (IsClientFault.bad_frame is) = ap (λ front. client_ending u.at front) is
client_ends {u} (IsClientFault.bad_json {frame} is reads) =
    ap (λ front. client_ending u.at front) is ∙ ap (λ read. frame_ending read (u.at + frame.header)) reads
client_ends {u} (IsClientFault.bad_message {frame} is reads) =
    ap (λ front. client_ending u.at front) is ∙ ap (λ read. frame_ending read (u.at + frame.header)) reads

-- Bodies of answers ---------------------------------------------------------------------------------------------------

abbrev in_body : ℕ → TargetFault → ℕ → Option Ending
in_body at fault place = Some (BadTarget fault (at + header + place) 0)

abbrev body_ending : ℕ → BodyFault → Option Ending
body_ending at body_faults.NoMemory = None
body_ending at body_faults.UnknownCommand = None
body_ending at (body_faults.Short place) = in_body at Short place
body_ending at (body_faults.BadTag place) = in_body at BadTag place
body_ending at (body_faults.BadCount place) = in_body at BadCount place
body_ending at (body_faults.Trailing place) = in_body at Trailing place

body_ends : (at : ℕ) {found : BodyFault} {fault : TargetFault} {place : ℕ} → IsBodyFault found fault place
    → body_ending at found ≡ in_body at fault place
body_ends at IsBodyFault.short = refl
body_ends at IsBodyFault.bad_tag = refl
body_ends at IsBodyFault.bad_count = refl
body_ends at IsBodyFault.trailing = refl

abbrev sizes_ending : ℕ → Option ℕ → Option Ending
sizes_ending at None = None
sizes_ending at (Some which) = Some (BadTarget BadSizes (at + header + 4 * which) 0)

-- the ending by an answer that reads so, whose packet begins here
abbrev pub answer_ending : ℕ → Result Answer BodyFault → Option Ending
answer_ending at (Ok answer) = sizes_ending at (position is_no_size (numbers_in answer))
answer_ending at (Err found) = body_ending at found

five_good : (a b c d e : Bool) (f m o s r : ℕ) → is_no_size f ≡ a → is_no_size m ≡ b → is_no_size o ≡ c
    → is_no_size s ≡ d → is_no_size r ≡ e → has_good_sizes (answers.IdSizes f m o s r) ≡ true
    → position is_no_size (f ∷ m ∷ o ∷ s ∷ r ∷ []) ≡ None
five_good a b c d e f m o s r one two three four five good = grind (arith, one, two, three, four, five, good)

-- sizes that are good end nothing
pub good_sizes : (at : ℕ) (answer : Answer) → has_good_sizes answer ≡ true → answer_ending at (Ok answer) ≡ None
good_sizes at (answers.IdSizes f m o s r) good =
    ap (λ found. sizes_ending at found) (five_good (is_no_size f) (is_no_size m) (is_no_size o) (is_no_size s)
    (is_no_size r) f m o s r refl refl refl refl refl good)
good_sizes at _ good = refl

-- Bodies of composites ------------------------------------------------------------------------------------------------

abbrev composite_fault_ending : ℕ → CompositeFault → Option Ending
composite_fault_ending at composite_faults.NoMemory = None
composite_fault_ending at (composite_faults.Short place) = in_body at Short place
composite_fault_ending at (composite_faults.BadKind place) = in_body at BadKind place
composite_fault_ending at (composite_faults.BadPolicy place) = in_body at BadPolicy place
composite_fault_ending at (composite_faults.BadCount place) = in_body at BadCount place
composite_fault_ending at (composite_faults.BadTag place) = in_body at BadTag place
composite_fault_ending at (composite_faults.Trailing place) = in_body at Trailing place

composite_fault_ends : (at : ℕ) {found : CompositeFault} {fault : TargetFault} {place : ℕ}
    → IsCompositeFault found fault place → composite_fault_ending at found ≡ in_body at fault place
composite_fault_ends at IsCompositeFault.short = refl
composite_fault_ends at IsCompositeFault.bad_kind = refl
composite_fault_ends at IsCompositeFault.bad_policy = refl
composite_fault_ends at IsCompositeFault.bad_count = refl
composite_fault_ends at IsCompositeFault.bad_tag = refl
composite_fault_ends at IsCompositeFault.trailing = refl

-- the ending by a composite that reads so
abbrev pub composite_ending : ℕ → Result Composite CompositeFault → Option Ending
composite_ending at (Ok composite) = None
composite_ending at (Err found) = composite_fault_ending at found

-- sizes that are known serve, and they alone
known_serve : (sizes : Option SizesRead) (used : IdSizes) → sizes ≡ Some (sizes_of used) → SizesFor sizes used
known_serve sizes used is = subst (λ (s : Option SizesRead). SizesFor s used) (sym is) sizes_read

-- a composite is refused with any sizes that serve, at its place
pub composite_ends : {m : Machine} {body : List ℕ} {at : ℕ} {fault : TargetFault} {offset : ℕ}
    → RefusesComposite m body at fault offset → (used : IdSizes) → SizesFor m.state.sizes used
    → composite_ending at (composite_at used body) ≡ Some (BadTarget fault offset 0)
composite_ends {m} {body} {at} (RefusesComposite.bad_body own is reads bad) used serves =
    let same : used ≡ own = one_read m.state.sizes used own serves (known_serve m.state.sizes own is) (ap is_some is) in
    ap (λ sizes. composite_ending at (composite_at sizes body)) same ∙ ap (λ read. composite_ending at read) reads
    ∙ composite_fault_ends at bad

-- the sizes with which it was refused
pub own_sizes : {m : Machine} {body : List ℕ} {at : ℕ} {fault : TargetFault} {offset : ℕ}
    → RefusesComposite m body at fault offset → (used : IdSizes) × (m.state.sizes ≡ Some (sizes_of used))
own_sizes (RefusesComposite.bad_body own is reads bad) = (own, is)

-- a composite is refused for one fault
pub one_refusal : {m : Machine} {body : List ℕ} {at : ℕ} {one other : TargetFault} {first second : ℕ}
    → RefusesComposite m body at one first → RefusesComposite m body at other second
    → Some (BadTarget one first 0) ≡ Some (BadTarget other second 0)
one_refusal {m} a b =
    let (used, is) = own_sizes a in
    let serves = known_serve m.state.sizes used is in
    sym (composite_ends a used serves) ∙ composite_ends b used serves

-- Composites that were kept -------------------------------------------------------------------------------------------

abbrev pub first_kept : List Item → Option (ℕ × List ℕ)
first_kept [] = None
first_kept (a_raw at body ∷ items) = Some (at, body)
first_kept (a_request request ∷ items) = first_kept items
first_kept (a_composite at composite ∷ items) = first_kept items
first_kept (target_end ∷ items) = first_kept items

pub first_is : (before after : List Item) (at : ℕ) (body : List ℕ) → has_raw before ≡ false
    → first_kept (before ++ a_raw at body ∷ after) ≡ Some (at, body)
first_is [] after at body none = refl
first_is (a_raw other more ∷ before) after at body none = cc
first_is (a_request request ∷ before) after at body none = first_is before after at body none
first_is (a_composite other composite ∷ before) after at body none = first_is before after at body none
first_is (target_end ∷ before) after at body none = first_is before after at body none

-- the ending by the first of them
abbrev pub kept_ending : IdSizes → Option (ℕ × List ℕ) → Option Ending
kept_ending used None = None
kept_ending used (Some (at, body)) = composite_ending at (composite_at used body)

pub kept_ends : {m : Machine} {fault : TargetFault} {offset : ℕ} → IsKeptFault m fault offset → (used : IdSizes)
    → SizesFor m.state.sizes used → kept_ending used (first_kept m.waiting) ≡ Some (BadTarget fault offset 0)
kept_ends k used serves =
    ap (λ items. kept_ending used (first_kept items)) k.waiting
    ∙ ap (λ first. kept_ending used first) (first_is k.before k.after k.at k.body k.is_first)
    ∙ composite_ends k.refused used serves

pub one_kept : {m : Machine} {one other : TargetFault} {first second : ℕ} → IsKeptFault m one first
    → IsKeptFault m other second → Some (BadTarget one first 0) ≡ Some (BadTarget other second 0)
one_kept {m} a b =
    let (used, is) = own_sizes a.refused in
    let serves = known_serve m.state.sizes used is in
    sym (kept_ends a used serves) ∙ kept_ends b used serves

-- Refusals of commands ------------------------------------------------------------------------------------------------

-- whether a refusal ends a session shows in the command as it was sent
abbrev is_essential_sent : Asked → Bool
is_essential_sent (commands.Question question) = is_essential_question question
is_essential_sent (commands.Effect effects.Suspend) = true
is_essential_sent (commands.Effect effects.Resume) = true
is_essential_sent (commands.Effect (effects.Clear kind request)) = true
is_essential_sent (commands.Effect _) = false

abbrev pub is_tolerated_sent : Asked → ℕ → Bool
is_tolerated_sent asked code = cond (is_essential_sent asked) (code == 112) true

essential_so : (command : TargetCommand) → is_essential command ≡ is_essential_sent (wire command)
essential_so (a_question question) = refl
essential_so (an_effect (Does Suspend)) = refl
essential_so (an_effect (Does (Resume suspension))) = refl
essential_so (an_effect (Does Dispose)) = refl
essential_so (an_effect (Does Exit)) = refl
essential_so (an_effect (Does (Writes write))) = grind arith
essential_so (an_effect (Set wish)) = grind arith
essential_so (an_effect (Clear wish request)) = grind arith

pub tolerated_so : (command : TargetCommand) (code : ℕ)
    → is_tolerated command code ≡ is_tolerated_sent (wire command) code
tolerated_so command code = ap (λ essential. cond essential (code == 112) true) (essential_so command)

-- The target's front --------------------------------------------------------------------------------------------------

-- what is to be judged: nothing; what is wrong as it stands; a reply to a pending command; or a composite
pub data Verdict : Type 0 where
  no_verdict : Verdict
  over_as : Ending → Verdict
  of_reply : (id : ℕ) (asked : Asked) (error : ℕ) (body : List ℕ) → Verdict
  of_composite : List ℕ → Verdict

abbrev pub reply_verdict : ℕ → ℕ → ℕ → List ℕ → Option Asked → Verdict
reply_verdict at id error body None = Verdict.over_as (BadTarget UnknownReply at id)
reply_verdict at id error body (Some asked) = Verdict.of_reply id asked error body

abbrev pub front_verdict : SessionState → Front Packet PacketFault → Verdict
front_verdict s Front.waits = Verdict.no_verdict
front_verdict s (Front.faulty fault distance) =
    Verdict.over_as (BadTarget (mispacked fault) (s.streams.target.stream.at + distance) 0)
front_verdict s (Front.whole (command_packet id set number body) n) =
    cond (is_composite set number) (Verdict.of_composite body)
    (Verdict.over_as (BadTarget BadCommand s.streams.target.stream.at 0))
front_verdict s (Front.whole (reply_packet id error body) n) =
    reply_verdict s.streams.target.stream.at id error body (pending_under id s.streams.commands.sent)

abbrev pub verdict : SessionState → Verdict
verdict s = front_verdict s (target_front s.streams)

-- the ending by what was judged
pub data Sentence (s : SessionState) : Verdict → Ending → Type 0 where
  at_once : {ending : Ending} → Sentence s (Verdict.over_as ending) ending
  by_answer : {id error : ℕ} {asked : Asked} {body : List ℕ} {ending : Ending} (command : TargetCommand)
      (used : IdSizes) → asked ≡ wire command → error ≡ 0
      → pending_under id s.streams.commands.sent ≡ Some (wire command) → SizesFor s.machine.state.sizes used
      → answer_ending s.streams.target.stream.at (answer_at used (wire command) body) ≡ Some ending
      → Sentence s (Verdict.of_reply id asked error body) ending
  by_error : {id error : ℕ} {asked : Asked} {body : List ℕ} → 0 < error → is_tolerated_sent asked error ≡ false
      → Sentence s (Verdict.of_reply id asked error body)
      (TargetRefused (number_of asked).0 (number_of asked).1 error)
  by_composite : {body : List ℕ} {fault : TargetFault} {offset : ℕ}
      → RefusesComposite s.machine body s.streams.target.stream.at fault offset
      → Sentence s (Verdict.of_composite body) (BadTarget fault offset 0)

because : {s : SessionState} {found : Verdict} {ending : Ending} → verdict s ≡ found → Sentence s found ending
    → Sentence s (verdict s) ending
because {s} {ending = ending} is sentence = subst (λ found. Sentence s found ending) (sym is) sentence

-- a reply to a pending command
pub reply_judged : (s : SessionState) (id error n : ℕ) (body : List ℕ) (asked : Asked)
    → target_front s.streams ≡ Front.whole (reply_packet id error body) n
    → pending_under id s.streams.commands.sent ≡ Some asked → verdict s ≡ Verdict.of_reply id asked error body
reply_judged s id error n body asked front under =
    ap (λ found. front_verdict s found) front
    ∙ ap (λ found. reply_verdict s.streams.target.stream.at id error body found) under

pub composite_judged : (s : SessionState) (id set number n : ℕ) (body : List ℕ)
    → target_front s.streams ≡ Front.whole (command_packet id set number body) n → is_composite set number ≡ true
    → verdict s ≡ Verdict.of_composite body
composite_judged s id set number n body front is =
    ap (λ found. front_verdict s found) front
    ∙ ap (λ (b : Bool). cond b (Verdict.of_composite body)
    (Verdict.over_as (BadTarget BadCommand s.streams.target.stream.at 0))) is

answered_so : {s : SessionState} {command : TargetCommand} {read : Result Answer BodyFault} {ending : Ending}
    → HasAnswer s command read → answer_ending s.streams.target.stream.at read ≡ Some ending
    → Sentence s (verdict s) ending
answered_so {s} {command} h is =
    because (reply_judged s h.reply.id 0 h.reply.taken h.body (wire command) h.reply.front h.reply.pending)
    (Sentence.by_answer command h.used refl refl h.reply.pending h.serves
    (ap (λ read. answer_ending s.streams.target.stream.at read) h.reads ∙ is))

-- each fault of the target's is judged
pub target_ends : {s : SessionState} {fault : TargetFault} {offset id : ℕ} → IsTargetFault s fault offset id
    → Sentence s (verdict s) (BadTarget fault offset id)
target_ends {s} (IsTargetFault.bad_packet front) =
    because (ap (λ found. front_verdict s found) front) Sentence.at_once
target_ends {s} (IsTargetFault.bad_command {body} front none) =
    because (ap (λ found. front_verdict s found) front
    ∙ ap (λ (b : Bool). cond b (Verdict.of_composite body)
    (Verdict.over_as (BadTarget BadCommand s.streams.target.stream.at 0))) none) Sentence.at_once
target_ends {s} (IsTargetFault.bad_composite {id} {set} {number} {n} {body = body} front is bad) =
    because (composite_judged s id set number n body front is) (Sentence.by_composite bad)
target_ends {s} (IsTargetFault.unknown_reply {id} {error} {body = body} front none) =
    because (ap (λ found. front_verdict s found) front
    ∙ ap (λ found. reply_verdict s.streams.target.stream.at id error body found) none) Sentence.at_once
target_ends {s} (IsTargetFault.bad_answer has bad) = answered_so has (body_ends s.streams.target.stream.at bad)
target_ends {s} (IsTargetFault.bad_sizes has which) =
    answered_so has (ap (λ found. sizes_ending s.streams.target.stream.at found) which)

-- and so is each refusal
pub refusal_ends : {s : SessionState} {command : TargetCommand} {error : ℕ} {body : List ℕ}
    → HasReply s command error body → 0 < error → is_tolerated command error ≡ false
    → Sentence s (verdict s)
    (TargetRefused (number_of (wire command)).0 (number_of (wire command)).1 error)
refusal_ends {s} {command} {error} {body} r some none =
    because (reply_judged s r.id error r.taken body (wire command) r.front r.pending)
    (Sentence.by_error some (sym (tolerated_so command error) ∙ none))

-- where nothing stands at the front nothing ends
nothing_ends : {s : SessionState} {found : Verdict} {ending : Ending} → found ≡ Verdict.no_verdict
    → Sentence s found ending → ⊥
nothing_ends is Sentence.at_once = cc
nothing_ends is (Sentence.by_answer command used same none under serves ends) = cc
nothing_ends is (Sentence.by_error some none) = cc
nothing_ends is (Sentence.by_composite bad) = cc

pub some_front : {s : SessionState} {ending : Ending} → Sentence s (verdict s) ending
    → target_front s.streams ≡ Front.waits → ⊥
some_front {s} sentence waits = nothing_ends (ap (λ found. front_verdict s found) waits) sentence

no_error : {error : ℕ} → error ≡ 0 → 0 < error → ⊥
no_error none some = omega (arith, none, some)

-- of one verdict comes one ending
pub one_sentence : {s : SessionState} {found : Verdict} {one other : Ending} → AreReadAlike s
    → Sentence s found one → Sentence s found other → Some one ≡ Some other
one_sentence alike Sentence.at_once Sentence.at_once = refl
one_sentence {s} alike (Sentence.by_answer {id} {body = body} command used same none under serves ends)
    (Sentence.by_answer again also so never below serve ended) =
    let same_wire : wire again ≡ wire command = sym so ∙ same in
    sym ends
    ∙ ap (λ read. answer_ending s.streams.target.stream.at read)
    (alike id command body used also under serves serve)
    ∙ ap (λ asked. answer_ending s.streams.target.stream.at (answer_at also asked body)) (sym same_wire) ∙ ended
one_sentence alike (Sentence.by_answer command used same none under serves ends) (Sentence.by_error some tolerated) =
    absurd (no_error none some)
one_sentence alike (Sentence.by_error some tolerated) (Sentence.by_answer command used same none under serves ends) =
    absurd (no_error none some)
one_sentence alike (Sentence.by_error some none) (Sentence.by_error more never) = refl
one_sentence alike (Sentence.by_composite bad) (Sentence.by_composite worse) = one_refusal bad worse

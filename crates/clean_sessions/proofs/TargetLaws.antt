-- Where what stands next in the target's bytes is well formed, these have no fault, and no composite that was kept has.
use Rattle.std.proofs.Common.{◌≡◌, ◌<◌, ℕ, Bool, true, false, List, [], ◌∷◌, ◌++◌, Option, Some, None, Result, Ok, Err}
use Rattle.std.proofs.Common.{refl, sym, ap, subst, ◌∙◌, arith, map}
use Rattle.std.specs.Prelude.{position}
use Rattle.std.proofs.lemmas.List.Concat.{flat_map-append}
use Rattle.std.specs.List.{AllByRecursion as All, flat_map}
use Rattle.clean_sessions.specs.Premises.{KeptRead, RefusesLittle, TargetSpeaks}
use Rattle.clean_sessions.specs.Target.{IsReply, ReadsAsComposite, StandsNext, has_sizes_of_ids}
use Rattle.jdwp_commands.specs.Answers.{answer_at}
use Rattle.jdwp_commands.specs.declared.answer.Answer.TheVariants as answers
use Rattle.jdwp_commands.specs.declared.asked.Asked.{Asked}
use Rattle.jdwp_commands.specs.declared.fault.BodyFault.{BodyFault}
use Rattle.jdwp_packets.specs.Packets.{Packet, reply_packet}
use Rattle.jdwp_packets.specs.declared.fault.PacketFault.{PacketFault}
use Rattle.jdwp_values.specs.Sizes.{is_no_size}
use Rattle.jdwp_values.specs.declared.sizes.IdSizes.{IdSizes}
use Rattle.machine_model.specs.Replying.{SizesFor, has_good_sizes, is_tolerated, wire}
use Rattle.machine_model.specs.Runs.{Message, Run}
use Rattle.machine_model.specs.State.{Machine}
use Rattle.pending_table.specs.Windows.{pending_under}
use Rattle.session_laws.specs.Replies.{AreReadAlike, AreReplied, raw_in, read_by, under_id}
use Rattle.session_model.specs.Faults.{HasAnswer, HasReply, IsKeptFault, IsTargetFault, RefusesComposite}
use Rattle.session_model.specs.Faults.{numbers_in}
use Rattle.session_model.specs.Names.{a_raw, Answer, Entry, Replied, TargetCommand, TargetFault}
use Rattle.session_model.specs.Saying.{SaysReply}
use Rattle.session_model.specs.States.{SessionState, target_front}
use Rattle.wire_core.specs.Streams.{Front}

-- What stands next ----------------------------------------------------------------------------------------------------

-- the front of the target's bytes does
stands_next : {log : List Entry} {messages : List Message} {s : SessionState} (h : AreReplied log messages s)
    {front : Front Packet PacketFault} → target_front s.streams ≡ front → StandsNext log messages h.unreplied front
stands_next {s = s} h is = record {
  packets = h.packets;
  count = h.count;
  greeted = s.streams.target.greeted;
  stream = s.streams.target.stream;
  cut = h.cut;
  said = h.said;
  is = is;
}

-- a command that is pending has no reply yet
pends : {log : List Entry} {messages : List Message} {s : SessionState} (h : AreReplied log messages s) (id : ℕ)
    {found : Option Asked} → pending_under id s.streams.commands.sent ≡ found
    → pending_under id (map under_id h.unreplied) ≡ found
pends h id is = ap (λ sent. pending_under id sent) (sym h.pending) ∙ is

-- Composites ----------------------------------------------------------------------------------------------------------

no_refusal : {messages : List Message} {m : Machine} {body : List ℕ} {at : ℕ} {fault : TargetFault} {offset : ℕ}
    → Run messages m → ReadsAsComposite messages body → RefusesComposite m body at fault offset → ⊥
no_refusal {m = m} run reads (RefusesComposite.bad_body used sizes fails bad) =
    let (composite, is) = reads m used run sizes in cc

-- Replies -------------------------------------------------------------------------------------------------------------

-- how the body of an answer reads
reads_so : (s : SessionState) (id : ℕ) {error : ℕ} {command : TargetCommand} {body : List ℕ} {replied : Replied}
    → AreReadAlike s → pending_under id s.streams.commands.sent ≡ Some (wire command) → error ≡ 0
    → SaysReply s.machine.state.sizes command error body replied → has_sizes_of_ids replied ≡ true → (used : IdSizes)
    → SizesFor s.machine.state.sizes used
    → (answer : Answer) × (answer_at used (wire command) body ≡ Ok answer) × (has_good_sizes answer ≡ true)
reads_so s id {command = command} {body = body} alike under none
    (SaysReply.answers {answer} {used = own} serve reads) good used serves =
    (answer, alike id command body used own under serves serve ∙ reads, good)
reads_so s id alike under none (SaysReply.refuses some) good used serves = absurd (omega (arith, none, some))

answer_so : {log : List Entry} {messages : List Message} {s : SessionState} {command : TargetCommand}
    {read : Result Answer BodyFault} → AreReplied log messages s → AreReadAlike s → Run messages s.machine
    → TargetSpeaks log messages → HasAnswer s command read
    → (answer : Answer) × (read ≡ Ok answer) × (has_good_sizes answer ≡ true)
answer_so {messages = messages} {s} {command} h alike run speaks a =
    let r : IsReply messages h.unreplied a.reply.id 0 a.body =
    speaks h.unreplied (Front.whole (reply_packet a.reply.id 0 a.body) a.reply.taken) (stands_next h a.reply.front) in
    let (replied, says, good) = r.says s.machine run in
    let both : Some (wire r.command) ≡ Some (wire command) =
    sym r.pending ∙ pends h a.reply.id a.reply.pending in
    let same : wire r.command ≡ wire command = cc in
    let under = a.reply.pending ∙ ap (λ asked. Some asked) (sym same) in
    let (answer, is, fits) = reads_so s a.reply.id alike under refl says good a.used a.serves in
    (answer, sym a.reads ∙ ap (λ asked. answer_at a.used asked a.body) (sym same) ∙ is, fits)

five_good : (a b c d e : Bool) (f m o s r : ℕ) → is_no_size f ≡ a → is_no_size m ≡ b → is_no_size o ≡ c
    → is_no_size s ≡ d → is_no_size r ≡ e → has_good_sizes (answers.IdSizes f m o s r) ≡ true
    → position is_no_size (f ∷ m ∷ o ∷ s ∷ r ∷ []) ≡ None
five_good a b c d e f m o s r one two three four five good = grind (arith, one, two, three, four, five, good)

none_bad : (answer : Answer) → has_good_sizes answer ≡ true → position is_no_size (numbers_in answer) ≡ None
none_bad (answers.IdSizes f m o s r) good =
    five_good (is_no_size f) (is_no_size m) (is_no_size o) (is_no_size s) (is_no_size r) f m o s r refl refl refl refl
    refl good
none_bad _ good = refl

-- All of it -----------------------------------------------------------------------------------------------------------

pub target_well : {log : List Entry} {messages : List Message} {s : SessionState} {fault : TargetFault} {offset id : ℕ}
    → AreReplied log messages s → AreReadAlike s → Run messages s.machine → TargetSpeaks log messages
    → IsTargetFault s fault offset id → ⊥
target_well h alike run speaks (IsTargetFault.bad_packet front) = speaks h.unreplied _ (stands_next h front)
target_well h alike run speaks (IsTargetFault.bad_command front none) =
    let (is, reads) = speaks h.unreplied _ (stands_next h front) in
    let no : true ≡ false = sym is ∙ none in cc
target_well h alike run speaks (IsTargetFault.bad_composite front is bad) =
    no_refusal run (speaks h.unreplied _ (stands_next h front)).1 bad
target_well {messages = messages} h alike run speaks
    (IsTargetFault.unknown_reply {id} {error} {body = body} front none) =
    let r : IsReply messages h.unreplied id error body = speaks h.unreplied _ (stands_next h front) in
    let no : None ≡ Some (wire r.command) = sym (pends h id none) ∙ r.pending in cc
target_well h alike run speaks (IsTargetFault.bad_answer {found} a bad) =
    let (answer, is, good) = answer_so h alike run speaks a in
    let no : Err found ≡ Ok answer = is in cc
target_well h alike run speaks (IsTargetFault.bad_sizes {answer} {which} a wrong) =
    let (other, is, good) = answer_so h alike run speaks a in
    let both : Ok answer ≡ Ok other = is in
    let same : answer ≡ other = cc in
    let no : None ≡ Some which =
    sym (none_bad other good) ∙ ap (λ one. position is_no_size (numbers_in one)) (sym same) ∙ wrong in cc

pub refused_well : {log : List Entry} {messages : List Message} {s : SessionState} {command : TargetCommand} {error : ℕ}
    {body : List ℕ} → AreReplied log messages s → RefusesLittle log messages → HasReply s command error body
    → 0 < error → is_tolerated command error ≡ false → ⊥
refused_well {command = command} {error} {body} h little r some none =
    let no : true ≡ false =
    sym (little h.unreplied command r.id error r.taken body (stands_next h r.front) (pends h r.id r.pending) some)
    ∙ none in cc

-- Composites that were kept -------------------------------------------------------------------------------------------

behind_all : {A : Type 0} (P : A → Type 0) (before after : List A) → All P (before ++ after) → All P after
behind_all P [] after h = h
behind_all P (first ∷ before) after h = behind_all P before after h.1

abbrev Reads : List Message → ℕ × List ℕ → Type 0
Reads messages kept = ReadsAsComposite messages kept.1

pub kept_well : {log : List Entry} {messages : List Message} {s : SessionState} {fault : TargetFault} {offset : ℕ}
    → AreReplied log messages s → Run messages s.machine → KeptRead messages → IsKeptFault s.machine fault offset → ⊥
kept_well {messages = messages} {s} h run reads k =
    let raw : flat_map raw_in s.machine.waiting
    ≡ flat_map raw_in k.before ++ (k.at, k.body) ∷ flat_map raw_in k.after =
    ap (λ items. flat_map raw_in items) k.waiting ∙ flat_map-append raw_in k.before (a_raw k.at k.body ∷ k.after) in
    let waits : All (Reads messages) (flat_map raw_in s.machine.waiting) =
    behind_all (Reads messages) (flat_map read_by messages ++ h.kept.dropped) _
    (subst (λ kept. All (Reads messages) kept) h.kept.kept reads) in
    let here : All (Reads messages) ((k.at, k.body) ∷ flat_map raw_in k.after) =
    behind_all (Reads messages) (flat_map raw_in k.before) _ (subst (λ kept. All (Reads messages) kept) raw waits) in
    no_refusal run here.0 k.refused

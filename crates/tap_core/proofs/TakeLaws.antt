-- What a packet does to a tap, by what waits and by what its body says.
use Rattle.std.proofs.Common.{◌≡◌, ℕ, ◌+◌, ◌*◌, ◌<◌, ◌≤◌, ◌&&◌, ◌==◌, ◌||◌, ◌++◌, Bool, true, false, List, [], ◌∷◌}
use Rattle.std.proofs.Common.{Option, None, Some, Ok, Result, refl, slice_get, sym, ap, subst, ◌∙◌, arith}
use Rattle.std.specs.Prelude.{map, position}
use Rattle.jdwp_commands.specs.Answers.{answer_at}
use Rattle.jdwp_commands.specs.declared.answer.Answer.TheVariants as answers
use Rattle.jdwp_commands.specs.declared.asked.Asked.{Asked}
use Rattle.jdwp_commands.specs.declared.question.Question.TheVariants as questions
use Rattle.jdwp_packets.specs.Packets.{Packet, command_packet, packet_bytes, reply_packet}
use Rattle.jdwp_values.specs.Sizes.{IsSize, is_no_size}
use Rattle.session_endings.specs.declared.ending.Ending.TheVariants.{BadTarget as a_bad_target}
use Rattle.target_bodies.specs.Hearing.{IsBadAnswer, MayBe, header}
use Rattle.target_bodies.proofs.HearLaws.{may_hold}
use Rattle.tap_core.specs.Cores.{CoreState, Unheard, can_keep_in, has_room_in, state_in}
use Rattle.tap_core.specs.Names.{a_question, an_answer, Answer, Ask, BadSizes, BadTarget, BodyFault, Debugger, Ending}
use Rattle.tap_core.specs.Names.{Flood, IdSizes, NoMemory, Sizes, TapEnding, TargetRefused, UnknownReply}
use Rattle.tap_core.specs.Taking.{EndsBy, IsBadReply, Takes, tap_ending}
use Rattle.tap_model.specs.Questions.{fitting, unanswered}
use Rattle.tap_model.specs.States.{Asking, TapState, pending_under, with_reached}
use Rattle.tap_model.specs.Steps.{Step, answer_read, asked_answer, body_ending, commanded, eights, replied, serving}
use Rattle.tap_model.specs.Steps.{sizes_read, sizes_said, tells, told}
use Rattle.tap_model.specs.Tapping.{numbers_of}

-- Bodies --------------------------------------------------------------------------------------------------------------

-- a body that is no answer ends the tap by its fault
pub bad_reply : (used : IdSizes) (asked : Asked) (body : List ℕ) (at : ℕ) (ending : Ending) (told : TapEnding)
    → IsBadAnswer used asked body at ending → told ≡ tap_ending ending
    → IsBadReply (answer_at used asked body) at told
bad_reply used asked body at ending told bad is =
    subst (IsBadReply (answer_at used asked body) at) (sym is) (by bad)
  where
    by : {e : Ending} → IsBadAnswer used asked body at e → IsBadReply (answer_at used asked body) at (tap_ending e)
    by IsBadAnswer.no_memory = IsBadReply.no_memory
    by (IsBadAnswer.faulty reads fault) = IsBadReply.faulty reads (ap (body_ending at) (sym fault))

-- and so does one to IDSizes
sizes_end : (packet : Packet) (at : ℕ) (read : Result Answer BodyFault) (s : TapState) (ending : TapEnding)
    → IsBadReply read at ending → EndsBy (sizes_read packet at read s) ending
sizes_end packet at read s NoMemory IsBadReply.no_memory = EndsBy.no_memory
sizes_end packet at read s ending (IsBadReply.faulty reads is) = EndsBy.ends (rw (reads, is) refl)

pub sizes_end_by : (packet : Packet) (at : ℕ) (body : List ℕ) (used : IdSizes) (s : TapState) (ending : TapEnding)
    → used ≡ eights → IsBadReply (answer_at used (a_question questions.IdSizes) body) at ending
    → EndsBy (sizes_read packet at (answer_at eights (a_question questions.IdSizes) body) s) ending
sizes_end_by packet at body used s ending is bad =
    sizes_end packet at (answer_at eights (a_question questions.IdSizes) body) s ending
    (subst (λ (u : IdSizes). IsBadReply (answer_at u (a_question questions.IdSizes) body) at ending) is bad)

-- and one to a question
pub answer_ends : (packet : Packet) (at n : ℕ) (read : Result Answer BodyFault) (s : TapState) (ending : TapEnding)
    → IsBadReply read at ending → EndsBy (answer_read packet at n read s) ending
answer_ends packet at n read s NoMemory IsBadReply.no_memory = EndsBy.no_memory
answer_ends packet at n read s ending (IsBadReply.faulty reads is) = EndsBy.ends (rw (reads, is) refl)

-- Sizes ---------------------------------------------------------------------------------------------------------------

is_size : (n : ℕ) → IsSize n → is_no_size n ≡ false
is_size n size = grind (arith, size)

pub good_sizes : (sizes : IdSizes) (numbers : List ℕ) → numbers ≡ numbers_of sizes → position is_no_size numbers ≡ None
good_sizes sizes numbers same =
    rw (
      same,
      is_size sizes.field sizes.field_is_size,
      is_size sizes.method sizes.method_is_size,
      is_size sizes.object sizes.object_is_size,
      is_size sizes.class sizes.class_is_size,
      is_size sizes.frame sizes.frame_is_size,
    ) refl

-- the sizes of ids that an answer says
pub sizes_learnt : (packet : Packet) (at field method object class frame : ℕ) (sizes : IdSizes) (s : TapState)
    → field ∷ method ∷ object ∷ class ∷ frame ∷ [] ≡ numbers_of sizes
    → sizes_said packet at (answers.IdSizes field method object class frame) s
    ≡ Step.learns packet (numbers_of sizes) s
sizes_learnt packet at field method object class frame sizes s same =
    rw (good_sizes sizes (field ∷ method ∷ object ∷ class ∷ frame ∷ []) same)
    (ap (λ (numbers : List ℕ). Step.learns packet numbers s) same)

-- or the first of them that is none
pub sizes_bad : (packet : Packet) (at field method object class frame which : ℕ) (ending : Ending)
    (told : TapEnding) (s : TapState)
    → position is_no_size (field ∷ method ∷ object ∷ class ∷ frame ∷ []) ≡ Some which
    → MayBe ending (a_bad_target BadSizes (at + header + 4 * which) 0) → told ≡ tap_ending ending
    → EndsBy (sizes_said packet at (answers.IdSizes field method object class frame) s) told
sizes_bad packet at field method object class frame which ending told s bad may is =
    subst (EndsBy (sizes_said packet at (answers.IdSizes field method object class frame) s)) (sym is)
    (may_hold (λ (e : Ending). EndsBy (sizes_said packet at (answers.IdSizes field method object class frame) s)
    (tap_ending e)) ending (a_bad_target BadSizes (at + header + 4 * which) 0) EndsBy.no_memory
    (EndsBy.ends (rw bad refl)) may)

-- Questions -----------------------------------------------------------------------------------------------------------

-- a reply to a question is read by it
asked_is : (packet : Packet) (at n : ℕ) (body : List ℕ) (asks : List Ask) (ask : Ask) (used : IdSizes)
    (sizes : Option IdSizes) (s : TapState) → slice_get asks n ≡ Some ask → sizes ≡ Some used
    → sizes ≡ s.asking.sizes → asked_answer packet at n body (slice_get asks n) s
    ≡ answer_read packet at n (answer_at used (a_question ask.question) body) s
asked_is packet at n body asks ask used sizes s there is known =
    ap (λ (found : Option Ask). asked_answer packet at n body found s) there
    ∙ ap (λ (z : Option IdSizes). answer_read packet at n (answer_at (serving z) (a_question ask.question) body) s)
    (sym known ∙ is)

pub answered : (packet : Packet) (at n : ℕ) (body : List ℕ) (asks : List Ask) (ask : Ask) (used : IdSizes)
    (sizes : Option IdSizes) (s : TapState) (answer : Answer) → slice_get asks n ≡ Some ask → sizes ≡ Some used
    → sizes ≡ s.asking.sizes → answer_at used (a_question ask.question) body ≡ Ok answer
    → asked_answer packet at n body (slice_get asks n) s
    ≡ Step.hears (tells packet) (with_reached n (an_answer answer) s)
answered packet at n body asks ask used sizes s answer there is known reads =
    asked_is packet at n body asks ask used sizes s there is known
    ∙ ap (λ (read : Result Answer BodyFault). answer_read packet at n read s) reads

pub misanswered : (packet : Packet) (at n : ℕ) (body : List ℕ) (asks : List Ask) (ask : Ask) (used : IdSizes)
    (sizes : Option IdSizes) (s : TapState) (ending : TapEnding) → slice_get asks n ≡ Some ask → sizes ≡ Some used
    → sizes ≡ s.asking.sizes → IsBadReply (answer_at used (a_question ask.question) body) at ending
    → EndsBy (asked_answer packet at n body (slice_get asks n) s) ending
misanswered packet at n body asks ask used sizes s ending there is known bad =
    subst (λ (step : Step). EndsBy step ending) (sym (asked_is packet at n body asks ask used sizes s there is known))
    (answer_ends packet at n (answer_at used (a_question ask.question) body) s ending bad)

-- Packets -------------------------------------------------------------------------------------------------------------

is_error : (n : ℕ) → 0 < n → (n == 0) ≡ false
is_error n some = grind arith

no_error : (n : ℕ) → n ≤ 0 → (n == 0) ≡ true
no_error n none = grind arith

pub command_floods : (core : CoreState) (unheard : Unheard) (at id set number : ℕ) (body : List ℕ)
    → can_keep_in core ≡ false
    → EndsBy (commanded (command_packet id set number body) at (state_in core unheard)) Flood
command_floods core unheard at id set number body full = EndsBy.ends (rw full refl)

pub event_floods : (asks : List Ask) (core : CoreState) (unheard : Unheard) (at id set number : ℕ) (body : List ℕ)
    → has_room_in core ≡ false
    → EndsBy (told asks (command_packet id set number body) at (state_in core unheard)) Flood
event_floods asks core unheard at id set number body full = EndsBy.ends (rw full refl)

pub reply_floods : (asks : List Ask) (packet : Packet) (core : CoreState) (unheard : Unheard) (at error id : ℕ)
    (leaves : Bool) (body : List ℕ) → has_room_in core ≡ false
    → EndsBy (replied asks packet at error body (Debugger id leaves) (state_in core unheard)) Flood
reply_floods asks packet core unheard at error id leaves body full = EndsBy.ends (rw full refl)

pub reply_goes : (asks : List Ask) (packet : Packet) (inside core : CoreState) (unheard : Unheard) (at error id : ℕ)
    (leaves left_by : Bool) (body bytes : List ℕ) (packets : List (List ℕ)) → inside ≡ core
    → has_room_in core ≡ true → bytes ≡ packet_bytes (reply_packet id error body)
    → packets ≡ inside.packets ++ bytes ∷ [] → left_by ≡ inside.left_by || (leaves && (error == 0))
    → Takes asks (replied asks packet at error body (Debugger id leaves) (state_in core unheard))
    (state_in (record inside { left_by = left_by; packets = packets }) unheard)
reply_goes asks packet inside core unheard at error id leaves left_by body bytes packets view room bytes_are
    packets_are left =
    rw (view, room) (rw (left, packets_are, bytes_are, view) refl)

pub reply_unknown : (asks : List Ask) (inside core : CoreState) (unheard : Unheard) (at id error : ℕ)
    (body : List ℕ) → inside ≡ core → pending_under id inside.sent.pending ≡ None
    → EndsBy (told asks (reply_packet id error body) at (state_in core unheard)) (BadTarget UnknownReply at id)
reply_unknown asks inside core unheard at id error body view none =
    subst (λ (c : CoreState). EndsBy (told asks (reply_packet id error body) at (state_in c unheard))
    (BadTarget UnknownReply at id)) view (EndsBy.ends (rw none refl))

pub sizes_refused : (asks : List Ask) (packet : Packet) (at error : ℕ) (body : List ℕ) (s : TapState) → 0 < error
    → EndsBy (replied asks packet at error body Sizes s) (TargetRefused 1 7 error)
sizes_refused asks packet at error body s some = EndsBy.ends (rw (is_error error some) refl)

pub sizes_go : (asks : List Ask) (packet : Packet) (inside core : CoreState) (unheard : Unheard) (at error : ℕ)
    (body : List ℕ) (sizes : IdSizes) (asking : Asking) → inside ≡ core → error ≤ 0
    → ((p : Packet) (s : TapState) → sizes_read p at (answer_at eights (a_question questions.IdSizes) body) s
    ≡ Step.learns p (numbers_of sizes) s)
    → asking ≡ record inside.asking {
      sizes = Some sizes;
      left = fitting sizes 0 asks;
      answers = map (unanswered sizes) asks;
    } → Takes asks (replied asks packet at error body Sizes (state_in core unheard))
    (state_in (record inside { asking = asking }) unheard)
sizes_go asks packet inside core unheard at error body sizes asking view none reads asking_is =
    rw (no_error error none, reads packet (state_in core unheard)) (sizes, refl, rw (asking_is, view) refl)

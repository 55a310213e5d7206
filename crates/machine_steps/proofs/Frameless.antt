-- Ids that are no frame's: they alone stand in events, and in answers to other questions than that for frames.
use Rattle.std.proofs.Common.{◌≡◌, ℕ, zero, suc, Bool, true, false, cond, List, [], ◌∷◌, Option, Some, None, refl, ap}
use Rattle.std.proofs.Common.{◌∙◌, arith}
use Rattle.std.specs.List.{AllByRecursion as All, flat_map}
use Rattle.jdwp_commands.specs.Answers.{kind_of_answer, told_answer}
use Rattle.jdwp_commands.specs.Commands.{kind_of}
use Rattle.jdwp_commands.specs.Items as items
use Rattle.jdwp_commands.specs.Items.{Item, Listed, OfItem, OfListed, Saying, says}
use Rattle.jdwp_commands.specs.Listed.{class_status_row, loaded_class_row}
use Rattle.jdwp_commands.specs.declared.answer.Answer.TheVariants as answers
use Rattle.jdwp_commands.specs.declared.kind.CommandKind.{CommandKind}
use Rattle.jdwp_commands.specs.declared.kind.CommandKind.TheVariants as kinds
use Rattle.jdwp_commands.specs.declared.kind.QuestionKind.TheVariants as question_kinds
use Rattle.jdwp_commands.specs.declared.question.Question.TheVariants as questions
use Rattle.jdwp_events.specs.Modifiers.{told}
use Rattle.jdwp_events.specs.declared.event.Event.{Event}
use Rattle.jdwp_events.specs.declared.event.Event.TheVariants as events
use Rattle.jdwp_events.specs.declared.modifier.Modifier.{Modifier}
use Rattle.jdwp_events.specs.declared.modifier.Modifier.TheVariants as modifiers
use Rattle.jdwp_values.specs.Classes.{field_row, method_row}
use Rattle.jdwp_values.specs.Parts as parts
use Rattle.jdwp_values.specs.Parts.{Of, OfSimple, Part, Simple}
use Rattle.jdwp_values.specs.Rows.{Holds}
use Rattle.jdwp_values.specs.declared.class.Field.{Field}
use Rattle.jdwp_values.specs.declared.class.Method.{Method}
use Rattle.jdwp_values.specs.declared.limit.Limit.{Limit}
use Rattle.jdwp_values.specs.declared.limit.Limit.TheVariants.{Any}
use Rattle.jdwp_values.specs.declared.value.Value.{Value}
use Rattle.jdwp_values.specs.declared.value.Value.TheVariants as values
use Rattle.machine_model.specs.Ids.{id_of_object, Id, class, frame, ids_answered, ids_of, ids_of_composite}
use Rattle.machine_model.specs.Ids.{ids_of_event, ids_of_item, ids_of_listed, ids_of_part, ids_of_row, ids_of_said}
use Rattle.machine_model.specs.Ids.{ids_of_saying, ids_of_simple, ids_of_value, ids_replied, method, no_thread}
use Rattle.machine_model.specs.Replying.{IsReply, wire}
use Rattle.machine_model.specs.State.{SizesRead, is_some}
use Rattle.machine_model.proofs.IdRows.{all_flat, all_joined}
use Rattle.machine_steps.specs.Names.{Answer, Composite, Effect, Question, Replied, ThreadId, a_question, an_effect}

abbrev pub is_frame : Id → Bool
is_frame (frame thread id) = true
is_frame _ = false

-- it asks for frames
abbrev pub asks_frames : Question → Bool
asks_frames (questions.Frames thread start length) = true
asks_frames _ = false

-- the thread that it asks for frames of, or how many it has
abbrev pub stack_of : Question → Option ThreadId
stack_of (questions.Frames thread start length) = Some thread
stack_of (questions.FrameCount thread) = Some thread
stack_of _ = None

abbrev pub asks_stack : Question → Bool
asks_stack question = is_some (stack_of question)

pub no_frames : (question : Question) → asks_stack question ≡ false → asks_frames question ≡ false
no_frames question is = grind (arith, is)

-- What may have a frame in it -----------------------------------------------------------------------------------------

abbrev is_framed_part : Part → Bool
is_framed_part (parts.simple parts.frame_id) = true
is_framed_part _ = false

abbrev are_framed : List Part → Bool
are_framed [] = false
are_framed (p ∷ row) = cond (is_framed_part p) true (are_framed row)

abbrev is_framed_item : Item → Bool
is_framed_item (items.part p) = is_framed_part p
is_framed_item (items.many limit items.frames) = true
is_framed_item _ = false

abbrev has_framed : List Saying → Bool
has_framed [] = false
has_framed (says i x ∷ sayings) = cond (is_framed_item i) true (has_framed sayings)

-- the answer to the question for frames alone has them
abbrev is_for_frames : CommandKind → Bool
is_for_frames (kinds.Question question_kinds.Frames) = true
is_for_frames _ = false

answer_unframed : (answer : Answer) → is_for_frames (kind_of_answer answer) ≡ false
    → has_framed (told_answer Any answer) ≡ false
answer_unframed (answers.Frames found) is = cc
answer_unframed _ is = refl

question_kind : (question : Question) → is_for_frames (kind_of (wire (a_question question))) ≡ asks_frames question
question_kind (questions.Frames thread start length) = refl
question_kind _ = refl

-- none of both
none_of : (first others : Bool) → cond first true others ≡ false → (first ≡ false) × (others ≡ false)
none_of true others is = cc
none_of false others is = (refl, is)

pub every_one : {A : Type 0} (P : A → Type 0) → ((a : A) → P a) → (list : List A) → All P list
every_one P k [] = tt
every_one P k (a ∷ list) = (k a, every_one P k list)

module _ (P : Id → Type 0) (free : (id : Id) → is_frame id ≡ false → P id) where
  simple_free : (thread : ℕ) (s : Simple) (x : OfSimple s) → is_framed_part (parts.simple s) ≡ false
      → All P (ids_of_simple thread s x)
  simple_free thread parts.object_id x is = (free _ refl, tt)
  simple_free thread parts.thread_id x is = (free _ refl, tt)
  simple_free thread parts.class_id x is = (free _ refl, tt)
  simple_free thread parts.method_id x is = (free _ refl, tt)
  simple_free thread parts.field_id x is = (free _ refl, tt)
  simple_free thread parts.frame_id x is = cc
  simple_free thread _ x is = tt

  object_free : (id : ℕ) → All P (id_of_object id)
  object_free zero = tt
  object_free (suc id) = (free _ refl, tt)

  value_free : (v : Value) → All P (ids_of_value v)
  value_free (values.Object x) = object_free x.0
  value_free (values.Array x) = object_free x.0
  value_free (values.String x) = object_free x.0
  value_free (values.Thread x) = object_free x.0
  value_free (values.ThreadGroup x) = object_free x.0
  value_free (values.ClassLoader x) = object_free x.0
  value_free (values.ClassObject x) = object_free x.0
  value_free _ = tt

  part_free : (thread : ℕ) (p : Part) (x : Of p) → is_framed_part p ≡ false → All P (ids_of_part thread p x)
  part_free thread (parts.simple s) x is = simple_free thread s x is
  part_free thread parts.location x is = (free _ refl, (free _ refl, tt))
  part_free thread parts.value x is = value_free x
  part_free thread parts.reference x is = value_free x
  part_free thread (parts.untagged byte) x is = value_free x
  part_free thread _ x is = tt

  row_free : (thread : ℕ) (row : List Part) (held : Holds row) → are_framed row ≡ false
      → All P (ids_of_row thread row held)
  row_free thread [] held is = tt
  row_free thread (p ∷ row) held is =
      let both = none_of (is_framed_part p) (are_framed row) is in
      all_joined P (ids_of_part thread p held.0) (ids_of_row thread row held.1) (part_free thread p held.0 both.0)
      (row_free thread row held.1 both.1)

  pub methods_free : (found : List Method) → All P (flat_map (ids_of method_row) found)
  methods_free found = all_flat (λ (one : Method). Unit {0}) P (ids_of method_row)
      (λ one any. row_free no_thread method_row.parts (method_row.values one) refl) found
      (every_one (λ (one : Method). Unit {0}) (λ one. tt) found)

  pub fields_free : (found : List Field) → All P (flat_map (ids_of field_row) found)
  fields_free found = all_flat (λ (one : Field). Unit {0}) P (ids_of field_row)
      (λ one any. row_free no_thread field_row.parts (field_row.values one) refl) found
      (every_one (λ (one : Field). Unit {0}) (λ one. tt) found)

  modifier_free : (one : Modifier) → All P (flat_map ids_of_said (told one))
  modifier_free (modifiers.ThreadOnly t) = (free _ refl, tt)
  modifier_free (modifiers.ClassOnly c) = (free _ refl, tt)
  modifier_free (modifiers.LocationOnly at) = (free _ refl, (free _ refl, tt))
  modifier_free (modifiers.ExceptionOnly c caught uncaught) = (free _ refl, tt)
  modifier_free (modifiers.Step t size depth) = (free _ refl, tt)
  modifier_free _ = tt

  listed_free : (thread : ℕ) (limit : Limit) (l : Listed) (x : OfListed l) → is_framed_item (items.many limit l) ≡ false
      → All P (ids_of_listed thread l x)
  listed_free thread limit items.threads x is = (free _ refl, tt)
  listed_free thread limit items.field_ids x is = (free _ refl, tt)
  listed_free thread limit items.values x is = value_free x
  listed_free thread limit items.modifiers x is = modifier_free x
  listed_free thread limit items.methods x is = row_free no_thread method_row.parts (method_row.values x) refl
  listed_free thread limit items.fields x is = row_free no_thread field_row.parts (field_row.values x) refl
  listed_free thread limit items.class_statuses x is =
      row_free no_thread class_status_row.parts (class_status_row.values x) refl
  listed_free thread limit items.loaded_classes x is =
      row_free no_thread loaded_class_row.parts (loaded_class_row.values x) refl
  listed_free thread limit items.frames x is = cc
  listed_free thread limit _ x is = tt

  item_free : (thread : ℕ) (i : Item) (x : OfItem i) → is_framed_item i ≡ false → All P (ids_of_item thread i x)
  item_free thread (items.part p) x is = part_free thread p x is
  item_free thread (items.many limit l) xs is = all_flat (λ (x : OfListed l). Unit {0}) P (ids_of_listed thread l)
      (λ x any. listed_free thread limit l x is) xs (every_one (λ (x : OfListed l). Unit {0}) (λ x. tt) xs)
  item_free thread (items.region limit) x is = all_flat (λ (v : Value). Unit {0}) P ids_of_value
      (λ v any. value_free v) x.values (every_one (λ (v : Value). Unit {0}) (λ v. tt) x.values)
  item_free thread _ x is = tt

  sayings_free : (thread : ℕ) (sayings : List Saying) → has_framed sayings ≡ false
      → All P (flat_map (ids_of_saying thread) sayings)
  sayings_free thread [] is = tt
  sayings_free thread (says i x ∷ sayings) is =
      let both = none_of (is_framed_item i) (has_framed sayings) is in
      all_joined P (ids_of_item thread i x) (flat_map (ids_of_saying thread) sayings) (item_free thread i x both.0)
      (sayings_free thread sayings both.1)

  -- What was read -------------------------------------------------------------------------------------------------------

  event_free : (event : Event) → All P (ids_of_event event)
  event_free (events.SingleStep request thread at) = (free _ refl, (free _ refl, (free _ refl, tt)))
  event_free (events.Breakpoint request thread at) = (free _ refl, (free _ refl, (free _ refl, tt)))
  event_free (events.Exception request thread at exception catch) = (
    free _ refl,
    (
      free _ refl,
      (
        free _ refl,
        all_joined P (ids_of_value exception) (class catch.class.0 ∷ method catch.method.0 ∷ []) (value_free exception)
            (free _ refl, (free _ refl, tt)),
      ),
    ),
  )
  event_free (events.ClassPrepare request thread tag c signature status) = (free _ refl, (free _ refl, tt))
  event_free (events.VMDeath request) = tt
  event_free _ = (free _ refl, tt)

  pub composite_free : (composite : Composite) → All P (ids_of_composite composite)
  composite_free composite = all_flat (λ (event : Event). Unit {0}) P ids_of_event (λ event any. event_free event)
      composite.events (every_one (λ (event : Event). Unit {0}) (λ event. tt) composite.events)

  answer_free : (thread : ℕ) (answer : Answer) → is_for_frames (kind_of_answer answer) ≡ false
      → All P (ids_answered thread answer)
  answer_free thread answer is = sayings_free thread (told_answer Any answer) (answer_unframed answer is)

  -- a reply to another question, and one to an effect
  pub reply_free : {sizes : Option SizesRead} (thread : ℕ) (question : Question) (replied : Replied)
      → IsReply sizes (a_question question) replied → asks_frames question ≡ false → All P (ids_replied thread replied)
  reply_free thread question replied (IsReply.with_error some tolerated) is = tt
  reply_free thread question replied (IsReply.with_answer {answer} used serves answers good) is =
      answer_free thread answer (ap is_for_frames answers.row ∙ question_kind question ∙ is)

  pub effect_free : {sizes : Option SizesRead} (thread : ℕ) (effect : Effect) (replied : Replied)
      → IsReply sizes (an_effect effect) replied → All P (ids_replied thread replied)
  effect_free thread effect replied (IsReply.with_error some tolerated) = tt
  effect_free thread effect replied (IsReply.with_answer {answer} used serves answers good) =
      answer_free thread answer (ap is_for_frames answers.row)

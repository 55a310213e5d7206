-- An error of a world has a number above 0.
use Rattle.std.proofs.Common.{◌≡◌, ℕ, ◌<◌, Bool, true, false, cond, List, [], ◌∷◌, Option, Some, None, subst, arith}
use Rattle.std.specs.Prelude.{Result, Ok, Err, ok_or, option_and_then, nat_abs, pos}
use Rattle.jdwp_values.specs.declared.class.Line.{Line}
use Rattle.jdwp_values.specs.declared.class.Variable.{Variable}
use Rattle.jdwp_values.specs.declared.id.ClassId.{ClassId}
use Rattle.jdwp_values.specs.declared.id.FieldId.{FieldId}
use Rattle.jdwp_values.specs.declared.id.FrameId.{FrameId}
use Rattle.jdwp_values.specs.declared.id.MethodId.{MethodId}
use Rattle.jdwp_values.specs.declared.id.ObjectId.{ObjectId}
use Rattle.jdwp_values.specs.declared.id.ThreadId.{ThreadId}
use Rattle.jdwp_values.specs.declared.tag.Tag.{Tag}
use Rattle.jdwp_values.specs.declared.value.Value.{Value}
use Rattle.jdwp_events.specs.declared.kind.EventKind.{EventKind}
use Rattle.jdwp_events.specs.declared.kind.EventKind.TheVariants as kinds
use Rattle.jdwp_events.specs.declared.kind.Policy.{Policy}
use Rattle.jdwp_events.specs.declared.modifier.Modifier.{Modifier}
use Rattle.jdwp_events.specs.declared.modifier.Modifier.TheVariants as modifiers
use Rattle.jdwp_commands.specs.declared.answer.Answer.{Answer}
use Rattle.jdwp_commands.specs.declared.answer.Answer.TheVariants as answers
use Rattle.jdwp_commands.specs.declared.asked.Replied.{Replied}
use Rattle.jdwp_commands.specs.declared.asked.Replied.TheVariants.{Error as an_error, Answer as an_answer}
use Rattle.jdwp_commands.specs.declared.effect.Effect.{Effect}
use Rattle.jdwp_commands.specs.declared.effect.Effect.TheVariants as effects
use Rattle.jdwp_commands.specs.declared.question.Question.{Question}
use Rattle.jdwp_commands.specs.declared.question.Question.TheVariants as questions
use Rattle.world_model.specs.declared.rows.WorldClass.{WorldClass}
use Rattle.world_model.specs.declared.rows.WorldField.{WorldField}
use Rattle.world_model.specs.declared.rows.WorldMethod.{WorldMethod}
use Rattle.world_model.specs.declared.rows.WorldObject.{WorldObject}
use Rattle.world_model.specs.declared.world.World.{World}
use Rattle.world_model.specs.Classes.{and_then, fields_in, fields_of, has_class, is_threads_class, known_lines}
use Rattle.world_model.specs.Classes.{lines_of, method_at, some_variables, source_of}
use Rattle.world_model.specs.Codes.{told, vm_dead}
use Rattle.world_model.specs.Effects.{Outcome, done_with, refused, living, applied, set_where, installed}
use Rattle.world_model.specs.Effects.{with_put, with_element, with_slot}
use Rattle.world_model.specs.Kinds.{kind_in}
use Rattle.world_model.specs.Objects.{object_at, array_at, object_fault, field_of, kind_of_array}
use Rattle.world_model.specs.Replies.{reply_of, living_reply}
use Rattle.world_model.specs.Requests.{allowed, allowed_if, of_one, of_none, of_kind, of_method, watch, breakpoint}
use Rattle.world_model.specs.Requests.{thrown, step, line_step, free_id}
use Rattle.world_model.specs.Storing.{field_put, put_of, value_from, kept_value, kept_reference}
use Rattle.world_model.specs.Storing.{referred, slot_put, untagged_value}
use Rattle.world_model.specs.Threads.{may_ask, frame_at, counted, slot_in}

-- something was found, or an error with a number
data IsCoded {A : Type 0} : Result A ℕ → Type 0 where
  found : {x : A} → IsCoded (Ok x)
  coded : {code : ℕ} → 0 < code → IsCoded (Err code)

ok_coded : {A : Type 0} (found : Option A) (code : ℕ) → 0 < code → IsCoded (ok_or found code)
ok_coded (Some x) code more = IsCoded.found
ok_coded None code more = IsCoded.coded more

then_coded : {A B : Type 0} (of : A → Result B ℕ) (found : Result A ℕ) → IsCoded found → ((x : A) → IsCoded (of x))
    → IsCoded (and_then of found)
then_coded of (Ok x) h k = k x
then_coded of (Err code) (IsCoded.coded more) k = IsCoded.coded more

if_coded : {A : Type 0} (b : Bool) {x y : Result A ℕ} → IsCoded x → IsCoded y → IsCoded (cond b x y)
if_coded true h k = h
if_coded false h k = k

-- the numbers of errors
not_there : {A : Type 0} → IsCoded {A = A} (Err 99)
not_there = IsCoded.coded (omega arith)

no_class : {A : Type 0} → IsCoded {A = A} (Err 21)
no_class = IsCoded.coded (omega arith)

no_thread : {A : Type 0} → IsCoded {A = A} (Err 10)
no_thread = IsCoded.coded (omega arith)

-- Questions -----------------------------------------------------------------------------------------------------------

fault_coded : (there : Bool) → 0 < cond there 99 20
fault_coded true = omega arith
fault_coded false = omega arith

object_coded : (w : World) (id : ObjectId) → IsCoded (object_at w id)
object_coded w id = ok_coded _ (object_fault w id) (fault_coded _)

array_coded : (w : World) (id : ObjectId) → IsCoded (array_at w id)
array_coded w id = ok_coded _ (object_fault w id) (fault_coded _)

asks_coded : (w : World) (thread : ThreadId) → IsCoded (may_ask w thread)
asks_coded w thread =
    if_coded _ (if_coded _ not_there IsCoded.found) no_thread

frame_coded : (w : World) (thread : ThreadId) (frame : FrameId) → IsCoded (frame_at w thread frame)
frame_coded w thread frame =
    then_coded _ (may_ask w thread) (asks_coded w thread) (λ x. ok_coded _ 99 (omega arith))

method_coded : (w : World) (class : ClassId) (method : MethodId) → IsCoded (method_at w class method)
method_coded w class method = if_coded _ (ok_coded _ 99 (omega arith)) no_class

lines_coded : (row : WorldMethod) (lines : Option (List Line)) → IsCoded (known_lines row lines)
lines_coded row None = IsCoded.coded (omega arith)
lines_coded row (Some lines) = IsCoded.found

variables_coded : (variables : List Variable) → IsCoded (some_variables variables)
variables_coded [] = IsCoded.coded (omega arith)
variables_coded (variable ∷ variables) = IsCoded.found

source_coded : (class : Option WorldClass) → IsCoded (source_of class)
source_coded None = IsCoded.coded (omega arith)
source_coded (Some row) = ok_coded row.source 101 (omega arith)

count_coded : (n : ℕ) → IsCoded (counted n)
count_coded n = if_coded _ IsCoded.found not_there

fields_coded : (w : World) (class : ClassId) → IsCoded (fields_in w class)
fields_coded w class =
    if_coded (is_threads_class class) {x = Ok []} IsCoded.found
    (if_coded (has_class w class) {x = Ok (fields_of w class)} IsCoded.found no_class)

-- an error that is replied
abbrev pub IsNumbered : Replied → Type 0
IsNumbered (an_answer answer) = Unit {0}
IsNumbered (an_error code) = 0 < code

told_coded : {A : Type 0} (answer : A → Answer) (found : Result A ℕ) → IsCoded found → IsNumbered (told answer found)
told_coded answer (Ok x) h = tt
told_coded answer (Err code) (IsCoded.coded more) = more

living_numbers : (w : World) (question : Question) → IsNumbered (living_reply w question)
living_numbers w (questions.Signature class) =
    told_coded answers.Signature _ (if_coded _ IsCoded.found (ok_coded _ 21 (omega arith)))
living_numbers w (questions.Fields class) = told_coded answers.Fields (fields_in w class) (fields_coded w class)
living_numbers w (questions.Methods class) =
    told_coded answers.Methods _ (if_coded _ IsCoded.found no_class)
living_numbers w (questions.SourceFile class) = told_coded answers.SourceFile _ (source_coded _)
living_numbers w (questions.Superclass class) =
    told_coded answers.Superclass _ (if_coded _ IsCoded.found (ok_coded _ 21 (omega arith)))
living_numbers w (questions.LineTable class method) = told_coded answers.LineTable _
    (then_coded lines_of (method_at w class method) (method_coded w class method)
    (λ row. if_coded _ IsCoded.found (lines_coded row row.lines)))
living_numbers w (questions.VariableTable class method) = told_coded (answers.VariableTable (pos 0)) _
    (then_coded _ (method_at w class method) (method_coded w class method) (λ row. variables_coded _))
living_numbers w (questions.ObjectType object) = told_coded _ _ (ok_coded _ 20 (omega arith))
living_numbers w (questions.GetFields object fields) = told_coded answers.GetFields _
    (then_coded _ (object_at w object) (object_coded w object) (λ row. ok_coded _ 99 (omega arith)))
living_numbers w (questions.StringValue object) =
    told_coded answers.StringValue _ (ok_coded _ (object_fault w object) (fault_coded _))
living_numbers w (questions.ThreadName thread) = told_coded answers.ThreadName _ (ok_coded _ 10 (omega arith))
living_numbers w (questions.Frames thread start n) = told_coded answers.Frames _
    (then_coded _ (may_ask w thread) (asks_coded w thread) (λ x. ok_coded _ 99 (omega arith)))
living_numbers w (questions.FrameCount thread) = told_coded answers.FrameCount _
    (then_coded _ (may_ask w thread) (asks_coded w thread) (λ x. count_coded _))
living_numbers w (questions.ArrayLength array) = told_coded answers.ArrayLength _
    (then_coded _ (array_at w array) (array_coded w array) (λ row. count_coded _))
living_numbers w (questions.GetElements array first n) = told_coded answers.GetElements _
    (then_coded _ (array_at w array) (array_coded w array) (λ row. ok_coded _ 99 (omega arith)))
living_numbers w (questions.GetSlots thread frame slots) = told_coded answers.GetSlots _
    (then_coded _ (frame_at w thread frame) (frame_coded w thread frame) (λ row. ok_coded _ 99 (omega arith)))
living_numbers w (questions.ThisObject thread frame) = told_coded answers.ThisObject _
    (then_coded _ (frame_at w thread frame) (frame_coded w thread frame) (λ row. ok_coded _ 20 (omega arith)))
living_numbers w _ = tt

reply_numbers : (w : World) (question : Question) (dead : Bool)
    → IsNumbered (cond dead (an_error vm_dead) (living_reply w question))
reply_numbers w question true = omega arith
reply_numbers w question false = living_numbers w question

-- the error of a question has a number above 0
pub question_numbers : (w : World) (question : Question) → IsNumbered (reply_of w question)
question_numbers w question = reply_numbers w question w.dead

-- Effects -------------------------------------------------------------------------------------------------------------

kept_coded : (w : World) (value : Value) (id : Option ObjectId) → IsCoded (kept_reference w value id)
kept_coded w value None = IsCoded.found
kept_coded w value (Some id) = ok_coded _ 20 (omega arith)

value_coded : (w : World) (bytes : List ℕ) (kind : Option Tag) → IsCoded (value_from w bytes kind)
value_coded w bytes kind =
    then_coded (kept_value w) _
    (ok_coded (option_and_then (λ (tag : Tag). untagged_value w.sizes tag bytes) kind) 99 (omega arith))
    (λ value. kept_coded w value (referred value))

put_coded : (id : ObjectId) (field : FieldId) (value : Result Value ℕ) → IsCoded value → IsCoded (put_of id field value)
put_coded id field (Ok value) h = IsCoded.found
put_coded id field (Err code) (IsCoded.coded more) = IsCoded.coded more

field_coded : (w : World) (object : WorldObject) (field : FieldId) (bytes : List ℕ) (row : Option WorldField)
    → IsCoded (field_put w object field bytes row)
field_coded w object field bytes None = IsCoded.coded (omega arith)
field_coded w object field bytes (Some row) = put_coded object.id field _ (value_coded w bytes (kind_in row.field.signature))

slot_coded : (w : World) (value : Value) (held : Option Value) → IsCoded (slot_put w value held)
slot_coded w value None = IsCoded.coded (omega arith)
slot_coded w value (Some held) = if_coded _ (kept_coded w value (referred value)) not_there

allowed_coded : (b : Bool) (code : ℕ) → 0 < code → IsCoded (allowed_if b code)
allowed_coded true code more = IsCoded.found
allowed_coded false code more = IsCoded.coded more

watch_coded : (modifier : Modifier) → IsCoded (watch modifier)
watch_coded (modifiers.ClassMatch pattern) = allowed_coded _ 99 (omega arith)
watch_coded _ = IsCoded.coded (omega arith)

method_there_coded : (found : Result WorldMethod ℕ) → IsCoded found → IsCoded (of_method found)
method_there_coded (Ok method) h = IsCoded.found
method_there_coded (Err code) (IsCoded.coded more) = IsCoded.coded more

breakpoint_coded : (w : World) (modifier : Modifier) → IsCoded (breakpoint w modifier)
breakpoint_coded w (modifiers.LocationOnly at) = method_there_coded _ (method_coded w at.class at.method)
breakpoint_coded w _ = IsCoded.coded (omega arith)

thrown_coded : (modifier : Modifier) → IsCoded (thrown modifier)
thrown_coded (modifiers.ExceptionOnly class caught uncaught) = allowed_coded _ 99 (omega arith)
thrown_coded _ = IsCoded.coded (omega arith)

line_coded : (w : World) (thread : ThreadId) (b : Bool) → IsCoded (line_step w thread b)
line_coded w thread true = allowed_coded _ 10 (omega arith)
line_coded w thread false = IsCoded.coded (omega arith)

step_coded : (w : World) (modifier : Modifier) → IsCoded (step w modifier)
step_coded w (modifiers.Step thread size depth) = line_coded w thread _
step_coded w _ = IsCoded.coded (omega arith)

kind_coded : (w : World) (kind : EventKind) (modifier : Modifier) → IsCoded (of_kind w kind modifier)
kind_coded w kinds.ClassPrepare modifier = watch_coded modifier
kind_coded w kinds.Breakpoint modifier = breakpoint_coded w modifier
kind_coded w kinds.Exception modifier = thrown_coded modifier
kind_coded w kinds.SingleStep modifier = step_coded w modifier
kind_coded w _ modifier = IsCoded.coded (omega arith)

one_coded : (w : World) (kind : EventKind) (list : List Modifier) → IsCoded (of_one (of_kind w kind) list)
one_coded w kind [] = IsCoded.coded (omega arith)
one_coded w kind (modifier ∷ []) = kind_coded w kind modifier
one_coded w kind (modifier ∷ another ∷ more) = IsCoded.coded (omega arith)

none_coded : (list : List Modifier) → IsCoded (of_none list)
none_coded [] = IsCoded.found
none_coded (modifier ∷ more) = IsCoded.coded (omega arith)

request_coded : (w : World) (kind : EventKind) (policy : Policy) (list : List Modifier)
    → IsCoded (allowed w kind policy list)
request_coded w kind policy list =
    if_coded _ (if_coded _ (none_coded list) not_there) (if_coded _ (one_coded w kind list) not_there)

-- what is replied, where anything is
abbrev AreNumbered : Outcome → Type 0
AreNumbered outcome = (now : World) (replied : Replied) → outcome ≡ Some (now, replied) → IsNumbered replied

reply_same : (w now : World) (replied last : Replied) → IsNumbered replied
    → ◌≡◌ {A = Outcome} (Some (w, replied)) (Some (now, last)) → IsNumbered last
reply_same w now replied last h e =
    let same : ◌≡◌ {A = World × Replied} (w, replied) (now, last) = cc in
    subst (λ (p : World × Replied). IsNumbered p.1) same h

done_numbers : {A : Type 0} (w : World) (change : A → World) (answer : Answer) (found : Result A ℕ) → IsCoded found
    → AreNumbered (done_with w change answer found)
done_numbers w change answer (Ok x) h = λ now replied e. reply_same _ now (an_answer answer) replied tt e
done_numbers w change answer (Err code) (IsCoded.coded more) =
    λ now replied e. reply_same _ now (an_error code) replied more e

suspended_numbers : (w : World) (fits : Bool) (then : World)
    → AreNumbered (cond fits (Some (then, an_answer answers.Suspend)) None)
suspended_numbers w true then = λ now replied e. reply_same then now (an_answer answers.Suspend) replied tt e
suspended_numbers w false then = λ now replied e. absurd cc

installed_numbers : (w : World) (kind : EventKind) (policy : Policy) (list : List Modifier) (id : Option ℕ)
    → AreNumbered (installed w kind policy list id)
installed_numbers w kind policy list None = λ now replied e. absurd cc
installed_numbers w kind policy list (Some id) =
    λ now replied e. reply_same _ now (an_answer (answers.Set id)) replied tt e

set_numbers : (w : World) (kind : EventKind) (policy : Policy) (list : List Modifier) (found : Result (Unit {0}) ℕ)
    → IsCoded found → AreNumbered (set_where w kind policy list found)
set_numbers w kind policy list (Ok x) h = installed_numbers w kind policy list (free_id w)
set_numbers w kind policy list (Err code) (IsCoded.coded more) =
    λ now replied e. reply_same w now (an_error code) replied more e

living_effects : (w : World) (effect : Effect) → AreNumbered (living w effect)
living_effects w effects.Suspend = suspended_numbers w _ _
living_effects w (effects.SetField object field bytes) = done_numbers w (with_put w) answers.SetField _
    (then_coded _ (object_at w object) (object_coded w object) (λ row. field_coded w row field bytes (field_of w row.class field)))
living_effects w (effects.SetElement array first bytes) =
    done_numbers w (with_element w array (nat_abs first)) answers.SetElement _
    (then_coded _ (array_at w array) (array_coded w array)
    (λ row. if_coded _ not_there (value_coded w bytes (kind_of_array w row))))
living_effects w (effects.Set kind policy list) =
    set_numbers w kind policy list (allowed w kind policy list) (request_coded w kind policy list)
living_effects w (effects.SetSlot thread frame slot value) =
    done_numbers w (with_slot w thread frame slot) answers.SetSlot _
    (then_coded _ (frame_at w thread frame) (frame_coded w thread frame) (λ row. slot_coded w value (slot_in row.slots slot)))
living_effects w effects.Dispose = λ now replied e. reply_same _ now (an_answer answers.Dispose) replied tt e
living_effects w effects.Resume = λ now replied e. reply_same _ now (an_answer answers.Resume) replied tt e
living_effects w (effects.Exit code) = λ now replied e. reply_same _ now (an_answer answers.Exit) replied tt e
living_effects w (effects.Clear kind id) = λ now replied e. reply_same _ now (an_answer answers.Clear) replied tt e

applied_numbers : (w : World) (effect : Effect) (dead : Bool)
    → AreNumbered (cond dead (refused w vm_dead) (living w effect))
applied_numbers w effect true = λ now replied e. reply_same w now (an_error vm_dead) replied (omega arith) e
applied_numbers w effect false = living_effects w effect

-- and so has that of an effect
pub effect_numbers : (w now : World) (effect : Effect) (replied : Replied) → applied w effect ≡ Some (now, replied)
    → IsNumbered replied
effect_numbers w now effect replied e = applied_numbers w effect w.dead now replied e

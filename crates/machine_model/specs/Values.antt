-- How a value of the target is shown: its text, its type where the client asked for types, and the container that it
-- is (DAP specification, Types, Variable; JDWP, StringReference, ArrayReference and ObjectReference command sets).
use Rattle.std.specs.Prelude.{ℕ, zero, suc, List, [], ◌∷◌, ◌==◌, Bool, true, false, cond, Option, None, Some}
use Rattle.jdwp_commands.specs.declared.answer.Answer.TheVariants as answers
use Rattle.jdwp_commands.specs.declared.question.Question.TheVariants as questions
use Rattle.jdwp_values.specs.Parts.{tag_of_value}
use Rattle.jdwp_values.specs.Tags.{byte_of_tag}
use Rattle.jdwp_values.specs.declared.value.Value.{Value}
use Rattle.jdwp_values.specs.declared.value.Value.TheVariants as values
use Rattle.machine_model.specs.Frames.{signature_plan}
use Rattle.machine_model.specs.Names.{Answer, ClassId, Seen, Want}
use Rattle.machine_model.specs.Plans.{Plan, asking, both, chained, gives, made_with}
use Rattle.stop_refs.specs.declared.thing.Thing.TheVariants.{Array as an_array, Object as an_object}
use Rattle.value_views.specs.Names.{class_name}
use Rattle.value_views.specs.Texts.{value_text}
use Rattle.value_views.specs.declared.known.Known.TheVariants as knowns

-- Objects -------------------------------------------------------------------------------------------------------------

-- by an id that is 0, or isn't: nothing is asked of null
abbrev pub by_id : {A : Type 0} → ℕ → Plan A → (ℕ → Plan A) → Plan A
by_id zero null other = null
by_id (suc id) null other = other (suc id)

-- the class of an object (JDWP, ObjectReference command set, ReferenceType)
abbrev pub class_in : Option Answer → ClassId
class_in (Some (answers.ObjectType tag class)) = class
class_in _ = record { 0 = 0 }

abbrev pub class_plan : ℕ → Plan ClassId
class_plan id = asking class_in (Want.Must (questions.ObjectType (record { 0 = id })))

-- and its signature
abbrev pub type_plan : ℕ → Plan (List ℕ)
type_plan id = chained (class_plan id) signature_plan

-- the length of an array (JDWP, ArrayReference command set, Length)
abbrev pub length_in : Option Answer → ℕ
length_in (Some (answers.ArrayLength count)) = count
length_in _ = 0

abbrev pub length_plan : ℕ → Plan ℕ
length_plan id = asking length_in (Want.Must (questions.ArrayLength (record { 0 = id })))

-- the text of a string (JDWP, StringReference command set, Value)
abbrev pub text_in : Option Answer → List ℕ
text_in (Some (answers.StringValue text)) = text
text_in _ = []

abbrev pub text_plan : ℕ → Plan (List ℕ)
text_plan id = asking text_in (Want.Must (questions.StringValue (record { 0 = id })))

-- Where a value stands ------------------------------------------------------------------------------------------------

-- the signature of a place: it is known, or that of an array's elements, which is asked for only where it decides
pub data Declared : Type 0 where
  is_signature : List ℕ → Declared
  element_of : ℕ → Declared

-- a value, and the signature of the place that it stands in
pub record Valued : Type 0 where
  pub value : Value
  pub declared : Declared

-- the signature of an array's elements; none where its own isn't an array's
abbrev pub behind_bracket : List ℕ → List ℕ
behind_bracket [] = []
behind_bracket (byte ∷ bytes) = cond (byte == 91) bytes []

abbrev pub element_plan : ℕ → Plan (List ℕ)
element_plan id = made_with behind_bracket (type_plan id)

abbrev pub declared_plan : Declared → Plan (List ℕ)
declared_plan (is_signature signature) = gives signature
declared_plan (element_of id) = by_id id (gives []) element_plan

-- Types (DAP specification, Types, Variable, type; Initialize request, supportsVariableType) --------------------------

-- the name of a type, where types are shown
abbrev pub type_if : Bool → List ℕ → Option (List ℕ)
type_if false signature = None
type_if true signature = Some (class_name signature)

-- only there its signature is asked for
abbrev pub typed : Bool → Plan (List ℕ) → Plan (Option (List ℕ))
typed false signature = gives None
typed true signature = made_with (type_if true) signature

-- Values --------------------------------------------------------------------------------------------------------------

-- a value with no children
abbrev pub childless : List ℕ → Option (List ℕ) → Seen
childless text kind = record { text = text; kind = kind; indexed = None; thing = None }

-- a value that is no reference: its type is its tag's
abbrev pub primitive_seen : Bool → Value → Seen
primitive_seen types value =
    childless (value_text value knowns.Plain) (type_if types (byte_of_tag (tag_of_value value) ∷ []))

-- null: its type is that of its place
abbrev pub null_plan : Bool → Valued → Plan Seen
null_plan types v = made_with (childless (value_text v.value knowns.Plain)) (typed types (declared_plan v.declared))

-- a string: its text, and its type only where types are shown
abbrev pub string_seen : Value → List ℕ × Option (List ℕ) → Seen
string_seen value two = childless (value_text value (knowns.Text two.0)) two.1

abbrev pub string_plan : Bool → Value → ℕ → Plan Seen
string_plan types value id = made_with (string_seen value) (both (text_plan id) (typed types (type_plan id)))

-- an array: its type and its length
abbrev pub array_seen : Bool → Value → ℕ → List ℕ × ℕ → Seen
array_seen types value id two = record {
  text = value_text value (knowns.Array two.0 two.1);
  kind = type_if types two.0;
  indexed = Some two.1;
  thing = Some (an_array (record { 0 = id }));
}

abbrev pub array_plan : Bool → Value → ℕ → Plan Seen
array_plan types value id = made_with (array_seen types value id) (both (type_plan id) (length_plan id))

-- another object: its type
abbrev pub object_seen : Bool → Value → ℕ → List ℕ → Seen
object_seen types value id signature = record {
  text = value_text value (knowns.Object signature);
  kind = type_if types signature;
  indexed = None;
  thing = Some (an_object (record { 0 = id }));
}

abbrev pub object_plan : Bool → Value → ℕ → Plan Seen
object_plan types value id = made_with (object_seen types value id) (type_plan id)

-- a value by its kind
abbrev pub seen_by : Bool → Valued → Value → Plan Seen
seen_by types v (values.Object o) = by_id o.0 (null_plan types v) (object_plan types v.value)
seen_by types v (values.Array o) = by_id o.0 (null_plan types v) (array_plan types v.value)
seen_by types v (values.String o) = by_id o.0 (null_plan types v) (string_plan types v.value)
seen_by types v (values.Thread o) = by_id o.0 (null_plan types v) (object_plan types v.value)
seen_by types v (values.ThreadGroup o) = by_id o.0 (null_plan types v) (object_plan types v.value)
seen_by types v (values.ClassLoader o) = by_id o.0 (null_plan types v) (object_plan types v.value)
seen_by types v (values.ClassObject o) = by_id o.0 (null_plan types v) (object_plan types v.value)
seen_by types v value = gives (primitive_seen types value)

abbrev pub seen_plan : Bool → Valued → Plan Seen
seen_plan types v = seen_by types v v.value

-- The children of a container, before their values are asked for: a frame's variables, an object's fields, an array's
-- elements (DAP specification, Variables request).
use Rattle.std.specs.Prelude.{ℕ, ℤ, pos, negsuc, zero, suc, List, [], ◌∷◌, ◌++◌, ◌+◌, ◌==◌, ◌&&◌, ◌/◌, ◌%◌, Bool}
use Rattle.std.specs.Prelude.{true, false, cond, not, map, filter, nat_lt, nat_le, int_lt, codes, decimal, bytes_eq}
use Rattle.std.specs.Prelude.{Option, Some, unwrap_or}
use Rattle.std.specs.List.{list_any, range_with_len}
use Rattle.jdwp_commands.specs.declared.answer.Answer.TheVariants as answers
use Rattle.jdwp_commands.specs.declared.question.Question.TheVariants as questions
use Rattle.jdwp_values.specs.Lossy.{lossy}
use Rattle.jdwp_values.specs.declared.class.Field.{Field}
use Rattle.jdwp_values.specs.declared.class.Variable.{Variable}
use Rattle.jdwp_values.specs.declared.id.FieldId.{FieldId}
use Rattle.jdwp_values.specs.declared.id.MethodId.{MethodId}
use Rattle.jdwp_values.specs.declared.value.Value.{Value}
use Rattle.jdwp_values.specs.declared.value.Value.TheVariants as values
use Rattle.machine_model.specs.Facts.{above_in, fields_in, variables_in}
use Rattle.machine_model.specs.Frames.{signature_plan}
use Rattle.machine_model.specs.Names.{Answer, ClassId, Want}
use Rattle.machine_model.specs.Plans.{Plan, asking, both, chained, each, gives, made_with}
use Rattle.machine_model.specs.Values.{Declared, class_plan, element_of, is_signature}
use Rattle.stop_refs.specs.declared.thing.FrameThing.{FrameThing}
use Rattle.value_views.specs.Names.{class_name}

-- where a child's value stands: it is known; or in a slot, with the byte of its tag; in a field; or at an index
pub data Place : Type 0 where
  is_known : Value → Place
  in_slot : ℤ → ℕ → Place
  in_field : FieldId → Place
  at_index : ℕ → Place

-- a child: its name as it is told, the signature of its place, and where its value stands
pub record Child : Type 0 where
  pub name : List ℕ
  pub declared : Declared
  pub place : Place

-- Variables of a frame ------------------------------------------------------------------------------------------------

-- the object that a value names, 0 where it names none
abbrev pub object_named : Value → ℕ
object_named (values.Object o) = o.0
object_named (values.Array o) = o.0
object_named (values.String o) = o.0
object_named (values.Thread o) = o.0
object_named (values.ThreadGroup o) = o.0
object_named (values.ClassLoader o) = o.0
object_named (values.ClassObject o) = o.0
object_named _ = 0

-- the receiver of a frame's method (JDWP, StackFrame command set, ThisObject)
abbrev pub this_in : Option Answer → Value
this_in (Some (answers.ThisObject value)) = value
this_in _ = values.Void

abbrev pub this_plan : FrameThing → Plan Value
this_plan frame = asking this_in (Want.Must (questions.ThisObject frame.thread frame.frame))

-- the variables of a method, none where they are absent (JDWP, Method command set, VariableTable)
abbrev pub listed_variables : Option Answer → List Variable
listed_variables heard = unwrap_or (variables_in heard) []

abbrev pub variables_plan : ClassId → MethodId → Plan (List Variable)
variables_plan class method = asking listed_variables (Want.Fact (questions.VariableTable class method))

-- a variable is visible from its first code index on, for its length; `this` is none (JDWP, Method command set,
-- VariableTable)
abbrev pub is_visible : ℕ → Variable → Bool
is_visible index v =
    nat_le v.index index && nat_lt index (v.index + v.length) && not (bytes_eq v.name (codes "this"))

-- variables in order of their slots, those of one slot as they stand
abbrev pub put_variable : Variable → List Variable → List Variable
put_variable v [] = v ∷ []
put_variable v (w ∷ others) = cond (int_lt w.slot v.slot) (w ∷ put_variable v others) (v ∷ w ∷ others)

abbrev pub by_slot : List Variable → List Variable
by_slot [] = []
by_slot (v ∷ others) = put_variable v (by_slot others)

-- the tag of a slot is the first byte of its variable's signature (JDWP, StackFrame command set, GetValues)
abbrev pub first_byte : List ℕ → ℕ
first_byte [] = 0
first_byte (byte ∷ bytes) = byte

abbrev pub of_variable : Variable → Child
of_variable v = record {
  name = lossy v.name;
  declared = is_signature v.signature;
  place = in_slot v.slot (first_byte v.signature);
}

abbrev pub visible_at : ℕ → List Variable → List Child
visible_at index variables = map of_variable (by_slot (filter (is_visible index) variables))

abbrev pub visible_plan : FrameThing → Plan (List Child)
visible_plan frame = made_with (visible_at frame.at.index) (variables_plan frame.at.class frame.at.method)

-- the receiver stands before the variables, unless it is null
abbrev pub of_this : Value → ℕ → List Child
of_this value zero = []
of_this value (suc id) = record { name = codes "this"; declared = is_signature []; place = is_known value } ∷ []

abbrev pub with_this : Value × List Child → List Child
with_this two = of_this two.0 (object_named two.0) ++ two.1

abbrev pub locals_plan : FrameThing → Plan (List Child)
locals_plan frame = made_with with_this (both (this_plan frame) (visible_plan frame))

-- Fields of an object -------------------------------------------------------------------------------------------------

-- the fields of a class, and the class that it extends (JDWP, ReferenceType command set, Fields; JDWP, ClassType command
-- set, Superclass)
abbrev pub fields_plan : ℕ → Plan (List Field)
fields_plan class = asking fields_in (Want.Fact (questions.Fields (record { 0 = class })))

abbrev pub above_plan : ℕ → Plan ClassId
above_plan class = asking above_in (Want.Fact (questions.Superclass (record { 0 = class })))

-- so many classes are followed upwards at most: more than a session can ask for
abbrev pub reach : ℕ
reach = 1099511627776

-- The classes that were met, and behind them a class and those above it, in so many steps at most, up to null or to a
-- class that was met: it would bring nothing new.
unfoldable pub chain : ℕ → List ℕ → ℕ → Plan (List ℕ)
chain zero met class = gives met
chain (suc steps) met zero = gives met
chain (suc steps) met (suc class) = elim (list_any (λ other. other == suc class) met) [
  | true ↦ gives met
  | false ↦ chained (above_plan (suc class)) (λ above. chain steps (met ++ suc class ∷ []) above.0)
]

-- a field of the class itself, and not of its objects (Java Virtual Machine Specification, Fields, ACC_STATIC)
abbrev pub is_static : ℤ → Bool
is_static (pos n) = (n / 8) % 2 == 1
is_static (negsuc n) = (n / 8) % 2 == 0

-- the fields of a class's objects
abbrev pub own_fields : List Field → List Field
own_fields fields = filter (λ f. not (is_static f.bits)) fields

-- a field, its class, and whether its name was met before
pub record FieldOf : Type 0 where
  pub class : ℕ
  pub is_met : Bool
  pub field : Field

-- a name is met, once
abbrev pub with_name : List (List ℕ) → List ℕ → List (List ℕ)
with_name met name = cond (list_any (bytes_eq name) met) met (met ++ name ∷ [])

-- the names that were met behind a class's fields
abbrev pub names_met : List (List ℕ) → List Field → List (List ℕ)
names_met met [] = met
names_met met (f ∷ others) = names_met (with_name met (lossy f.name)) others

-- the fields of a class, behind the names that were met; its own are met one by one
abbrev pub of_fields : ℕ → List (List ℕ) → List Field → List FieldOf
of_fields class met [] = []
of_fields class met (f ∷ others) =
    record { class = class; is_met = list_any (bytes_eq (lossy f.name)) met; field = f }
    ∷ of_fields class (with_name met (lossy f.name)) others

-- the fields of a chain of classes, from the class upwards
abbrev pub of_classes : List (List ℕ) → List (ℕ × List Field) → List FieldOf
of_classes met [] = []
of_classes met (one ∷ others) =
    of_fields one.0 met (own_fields one.1) ++ of_classes (names_met met (own_fields one.1)) others

-- a field whose name was met before has its class's behind it
abbrev pub with_class : List ℕ → List ℕ → List ℕ
with_class name signature = name ++ codes "@" ++ class_name signature

abbrev pub name_plan : ℕ → List ℕ → Bool → Plan (List ℕ)
name_plan class name false = gives name
name_plan class name true = made_with (with_class name) (signature_plan (record { 0 = class }))

abbrev pub of_field : Field → List ℕ → Child
of_field f name = record { name = name; declared = is_signature f.signature; place = in_field f.id }

abbrev pub field_plan : FieldOf → Plan Child
field_plan f = made_with (of_field f.field) (name_plan f.class (lossy f.field.name) f.is_met)

-- each class with its fields
abbrev pub class_fields : ℕ → Plan (ℕ × List Field)
class_fields class = made_with (λ fields. (class, fields)) (fields_plan class)

abbrev pub chain_fields : ClassId → Plan (List (ℕ × List Field))
chain_fields class = chained (chain reach [] class.0) (each class_fields)

-- the fields of an object, each with its name
abbrev pub fields_named : List (ℕ × List Field) → Plan (List Child)
fields_named classes = each field_plan (of_classes [] classes)

abbrev pub object_fields : ℕ → Plan (List Child)
object_fields id = chained (chained (class_plan id) chain_fields) fields_named

-- Elements of an array ------------------------------------------------------------------------------------------------

-- an element is named by its index
abbrev pub index_name : ℕ → List ℕ
index_name i = codes "[" ++ decimal i ++ codes "]"

abbrev pub of_index : ℕ → ℕ → Child
of_index array i = record { name = index_name i; declared = element_of array; place = at_index i }

-- the elements from a place on, so many of them
abbrev pub elements_of : ℕ → ℕ → ℕ → List Child
elements_of array start count = map (of_index array) (range_with_len start count)

-- What `variables` shows: the children of a container, a page of them, each with its value (DAP specification, Variables
-- request; JDWP, StackFrame, ObjectReference and ArrayReference command sets, GetValues).
use Rattle.std.specs.Prelude.{ℕ, zero, suc, pos, List, [], ◌∷◌, ◌++◌, Bool, filter_map, length, take, drop, zip}
use Rattle.std.specs.Prelude.{Option, None, Some}
use Rattle.dap_messages.specs.Telling.{stale as stale_failure, unknown_reference, wrong_kind}
use Rattle.dap_messages.specs.declared.requests.Filter.{Filter}
use Rattle.dap_messages.specs.declared.requests.Filter.TheVariants.{Both, Indexed, Named}
use Rattle.dap_messages.specs.declared.told.Evaluated.{Evaluated}
use Rattle.dap_messages.specs.declared.told.Variable.{Variable}
use Rattle.jdwp_commands.specs.declared.answer.Answer.TheVariants as answers
use Rattle.jdwp_commands.specs.declared.listed.Slot.{Slot}
use Rattle.jdwp_commands.specs.declared.question.Question.TheVariants as questions
use Rattle.jdwp_values.specs.declared.id.FieldId.{FieldId}
use Rattle.jdwp_values.specs.declared.value.Value.{Value}
use Rattle.machine_model.specs.Children.{Child, Place, at_index, elements_of, in_field, in_slot, is_known}
use Rattle.machine_model.specs.Children.{locals_plan, object_fields}
use Rattle.machine_model.specs.Frames.{count_from}
use Rattle.machine_model.specs.Names.{Answer, Failure, Finding, Seen, ShownVariable, Want, variables_found}
use Rattle.machine_model.specs.Plans.{Plan, asking, chained, each, gives, made_with}
use Rattle.machine_model.specs.Values.{by_id, length_plan, seen_plan}
use Rattle.stop_refs.specs.Numbers.{InHand, number_of}
use Rattle.stop_refs.specs.declared.fault.RefFault.{RefFault}
use Rattle.stop_refs.specs.declared.fault.RefFault.TheVariants.{Stale, Unknown, WrongKind}
use Rattle.stop_refs.specs.declared.thing.FrameThing.{FrameThing}
use Rattle.stop_refs.specs.declared.thing.Thing.{Thing}
use Rattle.stop_refs.specs.declared.thing.Thing.TheVariants as things

-- Values of children --------------------------------------------------------------------------------------------------

-- the value of a child that is known
abbrev pub known_at : Place → Option Value
known_at (is_known value) = Some value
known_at (in_slot slot tag) = None
known_at (in_field field) = None
known_at (at_index i) = None

-- the slot of a child that stands in one
abbrev pub slot_at : Place → Option Slot
slot_at (is_known value) = None
slot_at (in_slot slot tag) = Some (record { slot = slot; tag = tag })
slot_at (in_field field) = None
slot_at (at_index i) = None

-- the field of a child that stands in one
abbrev pub field_at : Place → Option FieldId
field_at (is_known value) = None
field_at (in_slot slot tag) = None
field_at (in_field field) = Some field
field_at (at_index i) = None

-- those of some children
abbrev pub values_known : List Child → List Value
values_known children = filter_map (λ child. known_at child.place) children

abbrev pub slots_of : List Child → List Slot
slots_of children = filter_map (λ child. slot_at child.place) children

abbrev pub fields_of : List Child → List FieldId
fields_of children = filter_map (λ child. field_at child.place) children

abbrev pub values_in : Option Answer → List Value
values_in (Some (answers.GetSlots found)) = found
values_in (Some (answers.GetFields found)) = found
values_in (Some (answers.GetElements region)) = region.values
values_in _ = []

-- where no slot and no field is shown nothing is asked
abbrev pub slots_plan : FrameThing → List Slot → Plan (List Value)
slots_plan frame [] = gives []
slots_plan frame (slot ∷ slots) =
    asking values_in (Want.Must (questions.GetSlots frame.thread frame.frame (slot ∷ slots)))

abbrev pub field_values : ℕ → List FieldId → Plan (List Value)
field_values object [] = gives []
field_values object (field ∷ fields) =
    asking values_in (Want.Must (questions.GetFields (record { 0 = object }) (field ∷ fields)))

-- nor where no element is (JDWP, ArrayReference command set, GetValues)
abbrev pub elements_plan : ℕ → ℕ → ℕ → Plan (List Value)
elements_plan array start zero = gives []
elements_plan array start (suc count) =
    asking values_in (Want.Must (questions.GetElements (record { 0 = array }) (pos start) (pos (suc count))))

-- Pages ---------------------------------------------------------------------------------------------------------------

-- a page of children: from a place on, as many as are asked for, at most 10,000
abbrev pub page : {A : Type 0} → ℕ → ℕ → List A → List A
page start count children = take (count_from (length children) start count) (drop start children)

-- the receiver, whose value is known, stands before the others
abbrev pub with_known : List Child → List Value → List (Child × Value)
with_known children found = zip children (values_known children ++ found)

abbrev pub locals_valued : FrameThing → List Child → Plan (List (Child × Value))
locals_valued frame children = made_with (with_known children) (slots_plan frame (slots_of children))

abbrev pub locals_page : FrameThing → ℕ → ℕ → Plan (List (Child × Value))
locals_page frame start count =
    chained (locals_plan frame) (λ children. locals_valued frame (page start count children))

abbrev pub fields_valued : ℕ → List Child → Plan (List (Child × Value))
fields_valued object children = made_with (zip children) (field_values object (fields_of children))

abbrev pub fields_page : ℕ → ℕ → ℕ → Plan (List (Child × Value))
fields_page start count object =
    chained (object_fields object) (λ children. fields_valued object (page start count children))

abbrev pub elements_valued : ℕ → ℕ → ℕ → Plan (List (Child × Value))
elements_valued array start count = made_with (zip (elements_of array start count)) (elements_plan array start count)

abbrev pub elements_page : ℕ → ℕ → ℕ → Plan (List (Child × Value))
elements_page start count array =
    chained (length_plan array) (λ total. elements_valued array start (count_from total start count))

-- elements are indexed, all else is named (DAP specification, Variables request, filter)
abbrev pub if_named : {A : Type 0} → Filter → Plan (List A) → Plan (List A)
if_named Both children = children
if_named Indexed children = gives []
if_named Named children = children

abbrev pub if_indexed : {A : Type 0} → Filter → Plan (List A) → Plan (List A)
if_indexed Both children = children
if_indexed Indexed children = children
if_indexed Named children = gives []

-- a page of a container's children, each with its value; a frame is no container
abbrev pub page_plan : Thing → Filter → ℕ → ℕ → Plan (List (Child × Value))
page_plan (things.Frame frame) filter start count = gives []
page_plan (things.Locals frame) filter start count = if_named filter (locals_page frame start count)
page_plan (things.Object object) filter start count =
    if_named filter (by_id object.0 (gives []) (fields_page start count))
page_plan (things.Array array) filter start count =
    if_indexed filter (by_id array.0 (gives []) (elements_page start count))

-- The look-up ---------------------------------------------------------------------------------------------------------

-- a child with its value, as it is shown
abbrev pub shown_as : List ℕ → Seen → ShownVariable
shown_as name seen = record { name = name; seen = seen }

abbrev pub child_plan : Bool → Child × Value → Plan ShownVariable
child_plan types two = made_with (shown_as two.0.name)
    (seen_plan types (record { value = two.1; declared = two.0.declared }))

abbrev pub shown_plan : Bool → List (Child × Value) → Plan (List ShownVariable)
shown_plan types children = each (child_plan types) children

abbrev pub children_plan : Bool → Thing → Filter → ℕ → ℕ → Plan Finding
children_plan types thing filter start count =
    made_with variables_found (chained (page_plan thing filter start count) (shown_plan types))

-- How they are told ---------------------------------------------------------------------------------------------------

-- the number of a container, 0 of a value that is none (DAP specification, Types, Variable, variablesReference)
abbrev pub reference_of : InHand → Option Thing → ℕ
reference_of numbers None = 0
reference_of numbers (Some thing) = number_of thing numbers

-- a child as it is told (DAP specification, Types, Variable)
abbrev pub variable_told : InHand → ShownVariable → Variable
variable_told numbers shown = record {
  name = shown.name;
  value = shown.seen.text;
  kind = shown.seen.kind;
  indexed = shown.seen.indexed;
  reference = reference_of numbers shown.seen.thing;
}

-- the value of an expression as it is told (DAP specification, Evaluate request)
abbrev pub value_told : InHand → Seen → Evaluated
value_told numbers seen = record {
  result = seen.text;
  kind = seen.kind;
  indexed = seen.indexed;
  reference = reference_of numbers seen.thing;
}

-- why a number can't be read back (DAP specification, Overview, Lifetime of Objects References)
abbrev pub reference_failure : RefFault → Failure
reference_failure (Unknown next) = unknown_reference next
reference_failure (Stale stop) = stale_failure stop
reference_failure WrongKind = wrong_kind

-- What a world shows of a frame's variables, of an object's fields and of an array's elements (DAP specification,
-- Variables request).
use Rattle.std.specs.Prelude.{ℕ, pos, ◌+◌, ◌==◌, ◌&&◌, ◌++◌, nat_le, nat_lt, int_lt, bytes_eq, Bool, not}
use Rattle.std.specs.Prelude.{if◌then◌else◌, List, [], ◌∷◌, codes, decimal, filter, map, Option, Some, None}
use Rattle.std.specs.Prelude.{option_and_then, option_map}
use Rattle.std.specs.List.{list_any}
use Rattle.dap_messages.specs.declared.requests.Filter.{Filter}
use Rattle.dap_messages.specs.declared.requests.Filter.TheVariants.{Both, Indexed, Named}
use Rattle.jdwp_values.specs.Lossy.{lossy}
use Rattle.jdwp_values.specs.declared.class.Variable.{Variable}
use Rattle.jdwp_values.specs.declared.id.ObjectId.{ObjectId}
use Rattle.jdwp_values.specs.declared.value.Value.{Value}
use Rattle.machine_model.specs.declared.parts.Finding.{Finding}
use Rattle.machine_model.specs.declared.parts.Finding.TheVariants as found
use Rattle.machine_model.specs.declared.parts.Seen.{Seen}
use Rattle.machine_model.specs.declared.parts.ShownVariable.{ShownVariable}
use Rattle.machine_model.specs.declared.parts.Store.{Store}
use Rattle.machine_model.specs.declared.parts.Store.TheVariants as stores
use Rattle.shown_worlds.specs.Facts.{if_null, signature, type_of, variables}
use Rattle.shown_worlds.specs.FieldRows.{FieldOf, object_fields, value_in}
use Rattle.shown_worlds.specs.FrameRows.{may_look}
use Rattle.shown_worlds.specs.Paging.{page}
use Rattle.shown_worlds.specs.ValueRows.{shown}
use Rattle.slot_values.specs.declared.slot.SlotValue.{SlotValue}
use Rattle.stop_refs.specs.declared.thing.FrameThing.{FrameThing}
use Rattle.stop_refs.specs.declared.thing.Thing.{Thing}
use Rattle.stop_refs.specs.declared.thing.Thing.TheVariants as things
use Rattle.value_views.specs.Names.{class_name}
use Rattle.world_model.specs.Objects.{array_in, class_of, reference_in}
use Rattle.world_model.specs.Scans.{all_of}
use Rattle.world_model.specs.Storing.{referred}
use Rattle.world_model.specs.Threads.{frame_in, slot_value}
use Rattle.world_model.specs.declared.rows.WorldFrame.{WorldFrame}
use Rattle.world_model.specs.declared.world.World.{World}

-- A child: its name, the signature of its place, its value there, and how a value is put there. The receiver of a
-- frame's method stands in no place.
pub record Child : Type 0 where
  pub name : List ℕ
  pub signature : Option (List ℕ)
  pub value : Option Value
  pub store : Option Store

-- Variables of a frame ------------------------------------------------------------------------------------------------

-- a frame, as long as it may be looked at (JDWP, StackFrame command set)
abbrev pub frame_row : World → FrameThing → Option WorldFrame
frame_row w frame = if may_look w frame.thread then frame_in w frame.thread frame.frame else None

-- the object whose method runs in it (JDWP, StackFrame command set, ThisObject)
abbrev pub this_of : World → FrameThing → Option Value
this_of w frame = option_and_then (λ row. reference_in w row.this) (frame_row w frame)

-- a variable is in scope from its first code index on, for so many; the receiver is none of them (JDWP, Method command
-- set, VariableTable, codeIndex and length)
abbrev pub is_in_scope : ℕ → Variable → Bool
is_in_scope index v = nat_le v.index index && nat_lt index (v.index + v.length) && not (bytes_eq v.name (codes "this"))

-- a variable before those whose slots are not below its own
abbrev pub into_slots : Variable → List Variable → List Variable
into_slots v [] = v ∷ []
into_slots v (other ∷ others) = if int_lt other.slot v.slot then other ∷ into_slots v others else v ∷ other ∷ others

-- variables in order of their slots, those of one slot as they stand
abbrev pub in_slots : List Variable → List Variable
in_slots [] = []
in_slots (v ∷ others) = into_slots v (in_slots others)

-- the variables that are in scope where a frame stands
abbrev pub scope_of : World → FrameThing → List Variable
scope_of w frame = in_slots (filter (is_in_scope frame.at.index) (variables w frame.at.class frame.at.method))

-- the kind of a variable is the first byte of its signature (JDWP, StackFrame command set, GetValues, sigbyte)
abbrev pub kind_byte : List ℕ → ℕ
kind_byte [] = 0
kind_byte (byte ∷ bytes) = byte

-- the value of a variable among the slots of a frame (JDWP, StackFrame command set, GetValues)
abbrev pub value_of : List SlotValue → Variable → Option Value
value_of slots v = slot_value slots (record { slot = v.slot; tag = kind_byte v.signature })

abbrev pub variable_in : FrameThing → List SlotValue → Variable → Child
variable_in frame slots v = record {
  name = lossy v.name;
  signature = Some v.signature;
  value = value_of slots v;
  store = Some (stores.Slot frame.thread frame.frame v.slot);
}

-- the receiver, which a static method has none of
abbrev pub receiver_if : Value → Option ObjectId → List Child
receiver_if value None = []
receiver_if value (Some id) =
    if_null id.0 [] (record { name = codes "this"; signature = Some []; value = Some value; store = None } ∷ [])

-- the receiver of a frame's method, and then its variables that are in scope
abbrev pub locals_in : World → FrameThing → WorldFrame → Option (List Child)
locals_in w frame row = option_map
    (λ this. receiver_if this (referred this) ++ map (variable_in frame row.slots) (scope_of w frame))
    (reference_in w row.this)

abbrev pub locals : World → FrameThing → Option (List Child)
locals w frame = option_and_then (locals_in w frame) (frame_row w frame)

-- Fields of an object -------------------------------------------------------------------------------------------------

-- a field has its class behind its name, where one of that name stands before it
abbrev pub field_name : World → List (List ℕ) → FieldOf → List ℕ
field_name w before it =
    if list_any (bytes_eq (lossy it.field.name)) before
    then lossy it.field.name ++ codes "@" ++ class_name (signature w it.class)
    else lossy it.field.name

abbrev pub field_in : World → ObjectId → List (List ℕ) → FieldOf → Child
field_in w id before it = record {
  name = field_name w before it;
  signature = Some it.field.signature;
  value = value_in w id it.field.id;
  store = Some (stores.Field id it.field.id);
}

-- fields, behind fields of these names
abbrev pub fields_in : World → ObjectId → List (List ℕ) → List FieldOf → List Child
fields_in w id before [] = []
fields_in w id before (it ∷ others) = field_in w id before it ∷ fields_in w id (lossy it.field.name ∷ before) others

-- the fields of an object by its class
abbrev pub fields : World → ObjectId → Option (List Child)
fields w id = option_map (λ class. fields_in w id [] (object_fields w class)) (class_of w id)

-- Elements of an array ------------------------------------------------------------------------------------------------

-- an element is named by its index
abbrev pub element_name : ℕ → List ℕ
element_name i = codes "[" ++ decimal i ++ codes "]"

-- the signature of an array's elements stands behind `[` (JNI specification, Types and Data Structures, Type
-- Signatures)
abbrev pub behind_bracket : List ℕ → List ℕ
behind_bracket [] = []
behind_bracket (byte ∷ bytes) = if byte == 91 then bytes else []

abbrev pub element_signature : World → ObjectId → Option (List ℕ)
element_signature w id = option_map behind_bracket (type_of w id)

abbrev pub element_in : World → ObjectId → ℕ → Value → Child
element_in w id i value = record {
  name = element_name i;
  signature = element_signature w id;
  value = Some value;
  store = Some (stores.Element id (pos i));
}

-- elements, from an index on
abbrev pub elements_in : World → ObjectId → ℕ → List Value → List Child
elements_in w id i [] = []
elements_in w id i (value ∷ others) = element_in w id i value ∷ elements_in w id (i + 1) others

-- the elements of an array (JDWP, ArrayReference command set, GetValues)
abbrev pub elements : World → ObjectId → Option (List Child)
elements w id = option_map (λ row. elements_in w id 0 row.values) (array_in w id)

-- The children of a container -----------------------------------------------------------------------------------------

-- elements are indexed, all other children are named (DAP specification, Variables request, filter)
abbrev pub if_named : Filter → Option (List Child) → Option (List Child)
if_named Both children = children
if_named Named children = children
if_named Indexed children = Some []

abbrev pub if_indexed : Filter → Option (List Child) → Option (List Child)
if_indexed Both children = children
if_indexed Named children = Some []
if_indexed Indexed children = children

-- null has none
abbrev pub unless_null : ObjectId → Option (List Child) → Option (List Child)
unless_null id children = if_null id.0 (Some []) children

-- the children of a container that pass a filter; a frame itself is none
abbrev pub children_of : World → Filter → Thing → Option (List Child)
children_of w filter (things.Frame frame) = Some []
children_of w filter (things.Locals frame) = if_named filter (locals w frame)
children_of w filter (things.Object id) = if_named filter (unless_null id (fields w id))
children_of w filter (things.Array id) = if_indexed filter (unless_null id (elements w id))

-- a child by its name and its value
abbrev pub shown_as : List ℕ → Seen → ShownVariable
shown_as name seen = record { name = name; seen = seen }

abbrev pub child_shown : World → Bool → Child → Option ShownVariable
child_shown w types child = option_and_then
    (λ value. option_map (shown_as child.name) (shown w types (record { value = value; signature = child.signature })))
    child.value

-- a page of children; nothing where the world doesn't say one of their values
abbrev pub page_shown : World → Bool → ℕ → ℕ → List Child → Option (List ShownVariable)
page_shown w types start count children = all_of (child_shown w types) (page start count children)

abbrev pub world_children : World → Bool → Thing → Filter → ℕ → ℕ → Option Finding
world_children w types thing filter start count =
    option_map found.Variables (option_and_then (page_shown w types start count) (children_of w filter thing))

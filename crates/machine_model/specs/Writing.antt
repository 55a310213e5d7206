-- What `setVariable` writes: the value that a text is, to the place where a child of a container stands (DAP
-- specification, SetVariable request; JDWP, StackFrame, ObjectReference and ArrayReference command sets, SetValues).
use Rattle.std.specs.Prelude.{ℕ, ℤ, pos, List, [], ◌++◌, ◌-◌, ◌&&◌, Bool, true, false, bytes_eq, codes, cond, drop}
use Rattle.std.specs.Prelude.{find}
use Rattle.std.specs.Prelude.{length, nat_lt, take, Option, None, Some, Result, Ok, Err}
use Rattle.std.specs.Char.{is_ascii_digit}
use Rattle.std.specs.Int.{Width, byte_len, bytes_high_first, cast_unsigned, w8, w16, w32, w64}
use Rattle.std.specs.List.{list_all}
use Rattle.std.specs.Str.Parse.{digits_value}
use Rattle.dap_messages.specs.Telling.{bad_expression, bad_index, no_such_name, not_writable}
use Rattle.jdwp_commands.specs.declared.effect.Effect.{Effect as WireEffect}
use Rattle.jdwp_commands.specs.declared.effect.Effect.TheVariants as effects
use Rattle.jdwp_values.specs.Sizes.{is_no_size}
use Rattle.jdwp_values.specs.Tags.{is_reference, tag_of}
use Rattle.jdwp_values.specs.declared.tag.Tag.{Tag}
use Rattle.jdwp_values.specs.declared.value.Value.{Value}
use Rattle.jdwp_values.specs.declared.value.Value.TheVariants as values
use Rattle.machine_model.specs.Children.{Child, Place, at_index, first_byte, in_field, in_slot, index_name, locals_plan}
use Rattle.machine_model.specs.Children.{object_fields, of_index, visible_plan}
use Rattle.machine_model.specs.Names.{Failure, Finding, Store, Write, no_value, to_element, to_field, to_slot, write_found}
use Rattle.machine_model.specs.Plans.{Plan, chained, gives, made_with}
use Rattle.machine_model.specs.State.{SizesRead}
use Rattle.machine_model.specs.Values.{by_id, childless, declared_plan, length_plan, type_if}
use Rattle.stop_refs.specs.declared.thing.FrameThing.{FrameThing}
use Rattle.stop_refs.specs.declared.thing.Thing.{Thing}
use Rattle.stop_refs.specs.declared.thing.Thing.TheVariants as things
use Rattle.value_views.specs.Reads.{write_value}
use Rattle.value_views.specs.Texts.{value_text}
use Rattle.value_views.specs.declared.fault.WriteFault.{WriteFault}
use Rattle.value_views.specs.declared.fault.WriteFault.TheVariants.{BadText, NotWritable}
use Rattle.value_views.specs.declared.known.Known.TheVariants.{Plain}

-- Commands (JDWP, Detailed Command Information, common data types, untagged-value) ------------------------------------

-- so many bytes does an object's id take; a number that is no size stands for 8
abbrev pub good_size : ℕ → ℕ
good_size size = cond (is_no_size size) 8 size

abbrev pub signed_bytes : Width → ℤ → List ℕ
signed_bytes width n = bytes_high_first (byte_len width) (cast_unsigned width n)

-- a value without its tag, where an object's id takes so many bytes
abbrev pub untagged_bytes : ℕ → Value → List ℕ
untagged_bytes size (values.Byte n) = signed_bytes w8 n
untagged_bytes size (values.Char n) = bytes_high_first 2 n
untagged_bytes size (values.Double n) = bytes_high_first 8 n
untagged_bytes size (values.Float n) = bytes_high_first 4 n
untagged_bytes size (values.Int n) = signed_bytes w32 n
untagged_bytes size (values.Long n) = signed_bytes w64 n
untagged_bytes size (values.Short n) = signed_bytes w16 n
untagged_bytes size (values.Boolean n) = bytes_high_first 1 n
untagged_bytes size values.Void = []
untagged_bytes size (values.Object o) = bytes_high_first size o.0
untagged_bytes size (values.Array o) = bytes_high_first size o.0
untagged_bytes size (values.String o) = bytes_high_first size o.0
untagged_bytes size (values.Thread o) = bytes_high_first size o.0
untagged_bytes size (values.ThreadGroup o) = bytes_high_first size o.0
untagged_bytes size (values.ClassLoader o) = bytes_high_first size o.0
untagged_bytes size (values.ClassObject o) = bytes_high_first size o.0

-- the command that writes (JDWP, StackFrame, ObjectReference and ArrayReference command sets, SetValues)
abbrev pub stored_by : Store → Value → List ℕ → WireEffect
stored_by (to_slot thread frame slot) value bytes = effects.SetSlot thread frame slot value
stored_by (to_field object field) value bytes = effects.SetField object field bytes
stored_by (to_element array index) value bytes = effects.SetElement array index bytes

abbrev pub written_by : Write → WireEffect
written_by write = stored_by write.store write.value (untagged_bytes (good_size write.size) write.value)

-- Values --------------------------------------------------------------------------------------------------------------

-- a reference takes null alone, so that another text can't be written to it
abbrev pub misread : Option Tag → Failure
misread None = not_writable
misread (Some tag) = cond (is_reference tag) not_writable (bad_expression 0)

-- why a text is no value of a kind
abbrev pub value_failure : Option Tag → WriteFault → Failure
value_failure kind BadText = misread kind
value_failure kind _ = not_writable

abbrev pub value_or : Option Tag → Result Value WriteFault → Result Value Failure
value_or kind (Ok value) = Ok value
value_or kind (Err fault) = Err (value_failure kind fault)

-- the value that a text is in a place, by the first byte of its signature
abbrev pub value_for : List ℕ → List ℕ → Result Value Failure
value_for declared text = value_or (tag_of (first_byte declared)) (write_value (first_byte declared) text)

-- Places --------------------------------------------------------------------------------------------------------------

-- what is written is one of a container's children that stands in it; the receiver of a frame is none
abbrev pub slot_store : FrameThing → Place → Option Store
slot_store frame (in_slot slot tag) = Some (to_slot frame.thread frame.frame slot)
slot_store frame _ = None

abbrev pub field_store : ℕ → Place → Option Store
field_store object (in_field field) = Some (to_field (record { 0 = object }) field)
field_store object _ = None

abbrev pub element_store : ℕ → Place → Option Store
element_store array (at_index i) = Some (to_element (record { 0 = array }) (pos i))
element_store array _ = None

-- How it is asked for: whether types are shown, how many bytes an object's id takes, and the text of the value.
pub record Writing : Type 0 where
  pub types : Bool
  pub size : ℕ
  pub text : List ℕ

-- a value is written, and shown with the type of its place
abbrev pub write_with : Writing → Option Store → List ℕ → Result Value Failure → Finding
write_with w None declared (Ok value) = no_value not_writable
write_with w (Some store) declared (Ok value) =
    write_found (record { store = store; value = value; size = w.size })
    (childless (value_text value Plain) (type_if w.types declared))
write_with w store declared (Err failure) = no_value failure

abbrev pub child_written : Writing → (Place → Option Store) → Option Child → Plan Finding
child_written w store_in None = gives (no_value no_such_name)
child_written w store_in (Some child) =
    made_with (λ declared. write_with w (store_in child.place) declared (value_for declared w.text))
    (declared_plan child.declared)

-- the first child of a name
abbrev pub child_named : List ℕ → List Child → Option Child
child_named name children = find (λ child. bytes_eq child.name name) children

-- Elements ------------------------------------------------------------------------------------------------------------

-- what stands between the brackets of an element's name, and whether the name is digits between brackets
abbrev pub digits_of : List ℕ → List ℕ
digits_of name = take (length name - 2) (drop 1 name)

abbrev pub is_index_name : List ℕ → Bool
is_index_name name = bytes_eq name (codes "[" ++ digits_of name ++ codes "]") && nat_lt 0 (length (digits_of name))
    && list_all is_ascii_digit (digits_of name)

-- an index outside the array is a bad one; another spelling of an index is no child's name
abbrev pub element_by : Writing → Bool → Bool → ℕ → ℕ → Plan Finding
element_by w false named array i = gives (no_value bad_index)
element_by w true false array i = gives (no_value no_such_name)
element_by w true true array i = child_written w (element_store array) (Some (of_index array i))

abbrev pub element_written : Writing → List ℕ → ℕ → ℕ → Plan Finding
element_written w name i array =
    chained (length_plan array) (λ total. element_by w (nat_lt i total) (bytes_eq name (index_name i)) array i)

abbrev pub index_written : Writing → List ℕ → Bool → ℕ → Plan Finding
index_written w name false array = gives (no_value no_such_name)
index_written w name true array = element_written w name (digits_value 10 (digits_of name)) array

-- The look-up ---------------------------------------------------------------------------------------------------------

-- A name is sought among a frame's variables; the receiver is asked for where the name is its own alone (JDWP, StackFrame
-- command set, ThisObject).
abbrev pub is_this : List ℕ → Bool
is_this name = bytes_eq (codes "this") name

abbrev pub sought_in : FrameThing → Bool → Plan (List Child)
sought_in frame false = visible_plan frame
sought_in frame true = locals_plan frame

abbrev pub local_written : Writing → FrameThing → List ℕ → Plan Finding
local_written w frame name = chained (sought_in frame (is_this name))
    (λ children. child_written w (slot_store frame) (child_named name children))

abbrev pub field_written : Writing → List ℕ → ℕ → Plan Finding
field_written w name object =
    chained (object_fields object) (λ children. child_written w (field_store object) (child_named name children))

-- what is written to the child of a container that has a name; a frame is no container, and null has no children
abbrev pub write_by : Writing → Thing → List ℕ → Plan Finding
write_by w (things.Frame frame) name = gives (no_value no_such_name)
write_by w (things.Locals frame) name = local_written w frame name
write_by w (things.Object object) name = by_id object.0 (gives (no_value no_such_name)) (field_written w name)
write_by w (things.Array array) name =
    by_id array.0 (gives (no_value no_such_name)) (index_written w name (is_index_name name))

-- how many bytes an object's id takes, by the sizes that the target said (JDWP, VirtualMachine command set, IDSizes)
abbrev pub object_size : Option SizesRead → ℕ
object_size None = 8
object_size (Some sizes) = sizes.object

abbrev pub write_plan : Bool → Option SizesRead → Thing → List ℕ → List ℕ → Plan Finding
write_plan types sizes thing name text =
    write_by (record { types = types; size = object_size sizes; text = text }) thing name

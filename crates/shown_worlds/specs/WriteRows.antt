-- What `setVariable` writes in a world, and where (DAP specification, SetVariable request).
use Rattle.std.specs.Prelude.{ℕ, ◌-◌, ◌++◌, ◌&&◌, bytes_eq, Bool, true, false, if◌then◌else◌, List, [], codes, drop, find, length, map}
use Rattle.std.specs.Prelude.{nat_lt, slice_get, take, Option, Some, None, option_and_then, option_map, Result, Ok}
use Rattle.std.specs.Prelude.{Err}
use Rattle.std.specs.Char.{is_ascii_digit}
use Rattle.std.specs.List.{list_all}
use Rattle.std.specs.Str.Parse.{digits_value}
use Rattle.dap_messages.specs.Telling.{bad_expression, bad_index, no_such_name, not_writable}
use Rattle.dap_messages.specs.declared.told.Failure.{Failure}
use Rattle.jdwp_values.specs.Tags.{is_reference, tag_of}
use Rattle.jdwp_values.specs.declared.id.ObjectId.{ObjectId}
use Rattle.jdwp_values.specs.declared.tag.Tag.{Tag}
use Rattle.jdwp_values.specs.declared.value.Value.{Value}
use Rattle.machine_model.specs.declared.parts.Finding.{Finding}
use Rattle.machine_model.specs.declared.parts.Finding.TheVariants as found
use Rattle.machine_model.specs.declared.parts.Store.{Store}
use Rattle.shown_worlds.specs.ChildRows.{Child, element_in, element_name, fields, frame_row, kind_byte, locals, scope_of}
use Rattle.shown_worlds.specs.ChildRows.{variable_in}
use Rattle.shown_worlds.specs.Facts.{if_null}
use Rattle.shown_worlds.specs.ValueRows.{leaf, type_if}
use Rattle.slot_values.specs.declared.slot.SlotValue.{SlotValue}
use Rattle.stop_refs.specs.declared.thing.FrameThing.{FrameThing}
use Rattle.stop_refs.specs.declared.thing.Thing.{Thing}
use Rattle.stop_refs.specs.declared.thing.Thing.TheVariants as things
use Rattle.value_views.specs.Reads.{write_value}
use Rattle.value_views.specs.Texts.{value_text}
use Rattle.value_views.specs.declared.fault.WriteFault.{WriteFault}
use Rattle.value_views.specs.declared.fault.WriteFault.TheVariants.{BadText}
use Rattle.value_views.specs.declared.known.Known.TheVariants.{Plain}
use Rattle.world_model.specs.Objects.{array_in}
use Rattle.world_model.specs.declared.rows.WorldFrame.{WorldFrame}
use Rattle.world_model.specs.declared.world.World.{World}

-- How it is asked for: whether types are shown, how many bytes an object's id takes, and the text of the value.
pub record Wish : Type 0 where
  pub types : Bool
  pub size : ℕ
  pub text : List ℕ

-- a place for references takes null alone, whatever else the text is (JDWP, Constants, Tag)
abbrev pub why_bad : Option Tag → Failure
why_bad None = not_writable
why_bad (Some tag) = if is_reference tag then not_writable else bad_expression 0

-- why a text is no value for a place
abbrev pub why_not : List ℕ → WriteFault → Failure
why_not signature BadText = why_bad (tag_of (kind_byte signature))
why_not signature _ = not_writable

-- what is put to a place; the receiver of a frame's method stands in none
abbrev pub put_to : Wish → Option Store → List ℕ → Result Value WriteFault → Finding
put_to wish store signature (Err fault) = found.NoValue (why_not signature fault)
put_to wish None signature (Ok value) = found.NoValue not_writable
put_to wish (Some store) signature (Ok value) =
    found.Write (record { store = store; value = value; size = wish.size })
    (leaf (value_text value Plain) (type_if wish.types signature))

-- the value that a text is, by the kind of its place
abbrev pub written_to : Wish → Option Store → List ℕ → Finding
written_to wish store signature = put_to wish store signature (write_value (kind_byte signature) wish.text)

abbrev pub child_written : Wish → Option Child → Option Finding
child_written wish None = Some (found.NoValue no_such_name)
child_written wish (Some child) = option_map (written_to wish child.store) child.signature

-- the first child of a name
abbrev pub name_written : Wish → List ℕ → List Child → Option Finding
name_written wish name children = child_written wish (find (λ child. bytes_eq child.name name) children)

-- what stands between the brackets of an element's name
abbrev pub inside : List ℕ → List ℕ
inside name = take (length name - 2) (drop 1 name)

-- digits between brackets
abbrev pub is_index : List ℕ → Bool
is_index name = bytes_eq name (codes "[" ++ inside name ++ codes "]") && nat_lt 0 (length (inside name))
    && list_all is_ascii_digit (inside name)

-- an element by its name; digits with a zero before them are no name of it
abbrev pub element_written : World → Wish → List ℕ → ObjectId → ℕ → Option Value → Option Finding
element_written w wish name id i None = Some (found.NoValue bad_index)
element_written w wish name id i (Some value) =
    if bytes_eq name (element_name i) then child_written wish (Some (element_in w id i value))
    else Some (found.NoValue no_such_name)

abbrev pub index_written : World → Wish → List ℕ → ObjectId → ℕ → Option Finding
index_written w wish name id i =
    option_and_then (λ row. element_written w wish name id i (slice_get row.values i)) (array_in w id)

abbrev pub array_written : World → Wish → List ℕ → ObjectId → Option Finding
array_written w wish name id =
    if is_index name then index_written w wish name id (digits_value 10 (inside name))
    else Some (found.NoValue no_such_name)

-- null has no children
abbrev pub unless_null : ObjectId → Option Finding → Option Finding
unless_null id other = if_null id.0 (Some (found.NoValue no_such_name)) other

-- the values in the slots of a frame
abbrev pub slots_in : Option WorldFrame → List SlotValue
slots_in None = []
slots_in (Some row) = row.slots

-- The variables among which a name is sought are those that are in scope; and where the name is that of the receiver, it
-- stands before them, so that there has to be such a frame.
abbrev pub sought : World → FrameThing → Bool → Option (List Child)
sought w frame true = locals w frame
sought w frame false = Some (map (variable_in frame (slots_in (frame_row w frame))) (scope_of w frame))

-- what is written to the child of a container that has a name, or why nothing is; a frame itself has no children
abbrev pub world_write : World → Wish → Thing → List ℕ → Option Finding
world_write w wish (things.Frame frame) name = Some (found.NoValue no_such_name)
world_write w wish (things.Locals frame) name =
    option_and_then (name_written wish name) (sought w frame (bytes_eq (codes "this") name))
world_write w wish (things.Object id) name =
    unless_null id (option_and_then (name_written wish name) (fields w id))
world_write w wish (things.Array id) name = unless_null id (array_written w wish name id)

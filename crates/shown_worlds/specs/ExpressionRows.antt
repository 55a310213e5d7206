-- The value that an expression has in a world (DAP specification, Evaluate request; Java Language Specification,
-- Expressions, Field Access Expressions and Array Access Expressions).
use Rattle.std.specs.Prelude.{ℕ, pos, bytes_eq, Bool, if◌then◌else◌, List, [], ◌∷◌, codes, find, length, slice_get}
use Rattle.std.specs.Prelude.{Option, Some, None, option_and_then, option_map, Result, Ok, Err}
use Rattle.dap_messages.specs.Telling.{bad_index, no_such_name}
use Rattle.dap_messages.specs.declared.told.Failure.{Failure}
use Rattle.field_exprs.specs.declared.expr.Expr.{Expr}
use Rattle.field_exprs.specs.declared.expr.Head.{Head}
use Rattle.field_exprs.specs.declared.expr.Head.TheVariants as heads
use Rattle.field_exprs.specs.declared.expr.Hop.{Hop}
use Rattle.field_exprs.specs.declared.expr.Hop.TheVariants as hops
use Rattle.jdwp_values.specs.declared.class.Variable.{Variable}
use Rattle.jdwp_values.specs.declared.id.ObjectId.{ObjectId}
use Rattle.jdwp_values.specs.declared.value.Value.{Value}
use Rattle.jdwp_values.specs.declared.value.Value.TheVariants as values
use Rattle.machine_model.specs.declared.parts.Finding.{Finding}
use Rattle.machine_model.specs.declared.parts.Finding.TheVariants as found
use Rattle.shown_worlds.specs.ChildRows.{element_signature, frame_row, scope_of, this_of, value_of}
use Rattle.shown_worlds.specs.Facts.{if_null}
use Rattle.shown_worlds.specs.FieldRows.{FieldOf, object_fields, value_in}
use Rattle.shown_worlds.specs.ValueRows.{Placed, shown}
use Rattle.stop_refs.specs.declared.thing.FrameThing.{FrameThing}
use Rattle.world_model.specs.Objects.{array_in, class_of}
use Rattle.world_model.specs.Storing.{referred}
use Rattle.world_model.specs.declared.world.World.{World}

-- a value where it stands, or why an expression names none
abbrev pub Sought : Type 0
Sought = Result Placed Failure

abbrev pub sought : Option (List ℕ) → Value → Sought
sought signature value = Ok (record { value = value; signature = signature })

-- A name on an object: the first of its fields that is called so (Java Language Specification, Classes, Field
-- Declarations, Hiding).
abbrev pub field_found : World → ObjectId → Option FieldOf → Option Sought
field_found w id None = Some (Err no_such_name)
field_found w id (Some it) = option_map (sought (Some it.field.signature)) (value_in w id it.field.id)

abbrev pub field_on : World → List ℕ → ObjectId → Option Sought
field_on w name id = option_and_then
    (λ class. field_found w id (find (λ it. bytes_eq it.field.name name) (object_fields w class))) (class_of w id)

-- an array has its length alone (Java Language Specification, Arrays, Array Members)
abbrev pub length_on : World → List ℕ → ObjectId → Option Sought
length_on w name id =
    if bytes_eq name (codes "length")
    then option_map (λ row. sought (Some (codes "I")) (values.Int (pos (length row.values)))) (array_in w id)
    else Some (Err no_such_name)

-- a string has none
abbrev pub name_on_object : World → List ℕ → Value → ObjectId → Option Sought
name_on_object w name (values.Array o) id = length_on w name id
name_on_object w name (values.String o) id = Some (Err no_such_name)
name_on_object w name value id = field_on w name id

-- nor has null, or a value that is no reference
abbrev pub name_on_reference : World → List ℕ → Value → Option ObjectId → Option Sought
name_on_reference w name value None = Some (Err no_such_name)
name_on_reference w name value (Some id) =
    if_null id.0 (Some (Err no_such_name)) (name_on_object w name value id)

abbrev pub name_on : World → List ℕ → Value → Option Sought
name_on w name value = name_on_reference w name value (referred value)

-- an index on an array: the element there
abbrev pub element_found : World → ObjectId → Option Value → Sought
element_found w id None = Err bad_index
element_found w id (Some value) = sought (element_signature w id) value

abbrev pub index_on : World → ℕ → Value → Option Sought
index_on w i (values.Array id) =
    if_null id.0 (Some (Err bad_index))
    (option_map (λ row. element_found w id (slice_get row.values i)) (array_in w id))
index_on w i value = Some (Err bad_index)

abbrev pub step_on : World → Hop → Value → Option Sought
step_on w (hops.Field name) value = name_on w name value
step_on w (hops.Index i) value = index_on w i value

-- where a step finds a value it goes on from there
abbrev pub from_found : (Placed → Option Sought) → Sought → Option Sought
from_found go (Ok p) = go p
from_found go (Err failure) = Some (Err failure)

-- the steps, from left to right
abbrev pub steps_on : World → List Hop → Placed → Option Sought
steps_on w [] p = Some (Ok p)
steps_on w (hop ∷ others) p = option_and_then (from_found (steps_on w others)) (step_on w hop p.value)

-- `this` is the receiver, which a static method has none of
abbrev pub this_if : Value → Option ObjectId → Sought
this_if value None = Err no_such_name
this_if value (Some id) = if_null id.0 (Err no_such_name) (sought (Some []) value)

-- a name is that of a variable in scope, else of a field of the receiver (Java Language Specification, Names, Scope of
-- a Declaration)
abbrev pub variable_found : World → FrameThing → List ℕ → Option Variable → Option Sought
variable_found w frame name None = option_and_then (name_on w name) (this_of w frame)
variable_found w frame name (Some v) =
    option_map (sought (Some v.signature)) (option_and_then (λ row. value_of row.slots v) (frame_row w frame))

abbrev pub head_in : World → FrameThing → Head → Option Sought
head_in w frame heads.This = option_map (λ this. this_if this (referred this)) (this_of w frame)
head_in w frame (heads.Name name) =
    variable_found w frame name (find (λ v. bytes_eq v.name name) (scope_of w frame))

-- what an expression names in a frame
abbrev pub named_in : World → FrameThing → Expr → Option Sought
named_in w frame e = option_and_then (from_found (steps_on w e.steps)) (head_in w frame e.head)

-- it is shown as children are
abbrev pub sought_shown : World → Bool → Sought → Option Finding
sought_shown w types (Ok p) = option_map found.Value (shown w types p)
sought_shown w types (Err failure) = Some (found.NoValue failure)

-- the value of an expression, or why it has none; nothing where the world doesn't say it
abbrev pub world_value : World → Bool → FrameThing → Expr → Option Finding
world_value w types frame e = option_and_then (sought_shown w types) (named_in w frame e)

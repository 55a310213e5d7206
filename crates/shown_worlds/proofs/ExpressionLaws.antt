-- The value of an expression.
use Rattle.std.proofs.Common.{◌≡◌, ◌∷◌, ℕ, zero, suc, Bool, true, false, List, [], length, refl, sym, ap, ◌∙◌, arith}
use Rattle.std.proofs.Common.{take}
use Rattle.std.specs.Prelude.{bytes_eq, codes, filter, find, if◌then◌else◌, nat_lt, Option, Some, None}
use Rattle.std.specs.Prelude.{option_and_then, option_map, pos, slice_get, Ok, Err}
use Rattle.std.proofs.lemmas.Bool.{ltb-false, ltb-true}
use Rattle.std.proofs.lemmas.List.{drop_more}
use Rattle.std.proofs.lemmas.Option.{slice_get-get_or, slice_get_past}
use Rattle.dap_messages.specs.Telling.{bad_index, no_such_name}
use Rattle.dap_messages.specs.declared.told.Failure.{Failure}
use Rattle.field_exprs.specs.declared.expr.Expr.{Expr}
use Rattle.field_exprs.specs.declared.expr.Head.{Head}
use Rattle.field_exprs.specs.declared.expr.Head.TheVariants as heads
use Rattle.field_exprs.specs.declared.expr.Hop.{Hop}
use Rattle.field_exprs.specs.declared.expr.Hop.TheVariants as hops
use Rattle.jdwp_commands.specs.declared.listed.Slot.{Slot}
use Rattle.jdwp_values.specs.declared.class.Field.{Field}
use Rattle.jdwp_values.specs.declared.class.Variable.{Variable}
use Rattle.jdwp_values.specs.declared.id.ClassId.{ClassId}
use Rattle.jdwp_values.specs.declared.value.Value.{Value}
use Rattle.jdwp_values.specs.declared.value.Value.TheVariants as values
use Rattle.machine_model.specs.Children.{first_byte, is_visible, reach, this_plan, variables_plan}
use Rattle.machine_model.specs.Expressions.{as_length, as_this, class_field, element_hop, element_if, field_from}
use Rattle.machine_model.specs.Expressions.{field_hop, field_value, head_in, hop_on, hops_on, index_on, length_hop}
use Rattle.machine_model.specs.Expressions.{length_if, missing, name_on, named_head, named_in, on_value, one_of}
use Rattle.machine_model.specs.Expressions.{shown_value, this_by, value_plan, variable_named}
use Rattle.machine_model.specs.Expressions as machine
use Rattle.machine_model.specs.Plans.{Plan, of_world}
use Rattle.machine_model.specs.Values.{Declared, Valued, by_id, class_plan, element_of, is_signature, length_plan}
use Rattle.machine_model.specs.Values.{seen_plan}
use Rattle.machine_model.specs.Variables.{elements_plan, field_values, slots_plan}
use Rattle.machine_model.specs.declared.parts.Finding.TheVariants as found
use Rattle.shown_worlds.specs.ChildRows as children
use Rattle.shown_worlds.specs.ExpressionRows as shown
use Rattle.shown_worlds.specs.Facts.{if_null, variables}
use Rattle.shown_worlds.specs.FieldRows as rows
use Rattle.shown_worlds.specs.Laws.{IsLive, ShowsValues}
use Rattle.shown_worlds.specs.ValueRows.{Placed}
use Rattle.shown_worlds.proofs.ElementLaws.{elements_there}
use Rattle.shown_worlds.proofs.FactLaws.{class_there, object}
use Rattle.shown_worlds.proofs.FieldLaws.{values_there}
use Rattle.shown_worlds.proofs.LocalLaws.{no_slots, slots_same, slots_there, this_there, variables_there}
use Rattle.shown_worlds.proofs.PlanLemmas.{living, map_alike, map_map, said_chained, said_made}
use Rattle.shown_worlds.proofs.SearchLaws.{searched}
use Rattle.shown_worlds.proofs.ValueLaws.{length_there, placed, seen_there, signature_at}
use Rattle.stop_refs.specs.declared.thing.FrameThing.{FrameThing}
use Rattle.world_model.specs.Objects.{array_in, class_of}
use Rattle.world_model.specs.Replies.{living_reply}
use Rattle.world_model.specs.Sound.{IsSound}
use Rattle.world_model.specs.Storing.{referred}
use Rattle.world_model.specs.declared.rows.WorldArray.{WorldArray}
use Rattle.world_model.specs.declared.rows.WorldFrame.{WorldFrame}
use Rattle.world_model.specs.declared.world.World.{World}

-- what was sought, as the world has it
abbrev pub found_as : World → machine.Sought → shown.Sought
found_as w (Ok v) = Ok (placed w v)
found_as w (Err failure) = Err failure

-- a plan finds this in the world
abbrev pub Finds : World → Plan machine.Sought → Option shown.Sought → Type 0
Finds w p there = option_map (found_as w) (of_world (living_reply w) p) ≡ there

missing_there : (w : World) (failure : Failure) → Finds w (missing failure) (Some (Err failure))
unfolding of_world
missing_there w failure = refl

-- the one value that was asked for
one_read : (w : World) (declared : Declared) (value : Option Value)
    → option_map (found_as w) (option_map (one_of declared)
    (option_and_then (λ y. option_map (λ ys. y ∷ ys) (Some [])) value))
    ≡ option_map (shown.sought (signature_at w declared)) value
one_read w declared None = refl
one_read w declared (Some value) = refl

-- Fields --------------------------------------------------------------------------------------------------------------

value_there : (w : World) (n : ℕ) (it : Option rows.FieldOf)
    → Finds w (field_value n (option_map (λ (it : rows.FieldOf). it.field) it)) (shown.field_found w (object n) it)
value_there w n None = missing_there w no_such_name
value_there w n (Some it) =
    ap (option_map (found_as w))
    (said_made (living_reply w) (one_of (is_signature it.field.signature)) (field_values n (it.field.id ∷ []))
    ∙ ap (option_map (one_of (is_signature it.field.signature))) (values_there w n (it.field.id ∷ [])))
    ∙ one_read w (is_signature it.field.signature) (rows.value_in w (object n) it.field.id)

class_field_there : (w : World) (name : List ℕ) (n : ℕ) (class : ClassId) → IsLive w
    → Finds w (class_field name n class)
    (shown.field_found w (object n) (find (λ (it : rows.FieldOf). bytes_eq it.field.name name)
    (rows.object_fields w class)))
class_field_there w name n class live =
    ap (option_map (found_as w))
    (said_chained (living_reply w) (field_from reach [] name class.0) (field_value n)
    ∙ ap (option_and_then (λ (f : Option Field). of_world (living_reply w) (field_value n f)))
    (searched w name class live))
    ∙ value_there w n (find (λ (it : rows.FieldOf). bytes_eq it.field.name name) (rows.object_fields w class))

field_hop_there : (w : World) (name : List ℕ) (n : ℕ) → IsLive w
    → Finds w (field_hop name n) (shown.field_on w name (object n))
field_hop_there w name n live =
    ap (option_map (found_as w))
    (said_chained (living_reply w) (class_plan n) (class_field name n)
    ∙ ap (option_and_then (λ (c : ClassId). of_world (living_reply w) (class_field name n c))) (class_there w n))
    ∙ by_class (class_of w (object n))
  where
    by_class : (class : Option ClassId)
        → option_map (found_as w) (option_and_then (λ (c : ClassId). of_world (living_reply w)
        (class_field name n c)) class)
        ≡ option_and_then (λ (c : ClassId). shown.field_found w (object n)
        (find (λ (it : rows.FieldOf). bytes_eq it.field.name name) (rows.object_fields w c))) class
    by_class None = refl
    by_class (Some class) = class_field_there w name n class live

-- Lengths and elements ------------------------------------------------------------------------------------------------

length_as : (w : World) (there : Option WorldArray)
    → option_map (found_as w) (option_map as_length (option_map (λ (row : WorldArray). length row.values) there))
    ≡ option_map (λ (row : WorldArray). shown.sought (Some (codes "I")) (values.Int (pos (length row.values)))) there
length_as w None = refl
length_as w (Some row) = refl

length_by : (w : World) (n : ℕ) (is : Bool) → IsSound w
    → Finds w (length_if is n) (if is then option_map
    (λ (row : WorldArray). shown.sought (Some (codes "I")) (values.Int (pos (length row.values))))
    (array_in w (object n))
    else Some (Err no_such_name))
length_by w n false sound = missing_there w no_such_name
length_by w n true sound =
    ap (option_map (found_as w)) (said_made (living_reply w) as_length (length_plan n)
    ∙ ap (option_map as_length) (length_there w n sound))
    ∙ length_as w (array_in w (object n))

-- the element at an index, where it is there
element_by : (w : World) (n i : ℕ) (row : WorldArray) (within : Bool) → IsSound w
    → array_in w (object (suc n)) ≡ Some row → nat_lt i (length row.values) ≡ within
    → Finds w (element_if within i (suc n)) (Some (shown.element_found w (object (suc n)) (slice_get row.values i)))
element_by w n i row false sound is within =
    missing_there w bad_index
    ∙ ap (λ o. Some (shown.element_found w (object (suc n)) o))
    (sym (slice_get_past row.values i (ltb-false i (length row.values) within)))
element_by w n i row true sound is within =
    ap (option_map (found_as w))
    (said_made (living_reply w) (one_of (element_of (suc n))) (elements_plan (suc n) i 1)
    ∙ ap (option_map (one_of (element_of (suc n))))
    (elements_there w (suc n) row i 1 sound is (omega (arith, ltb-true i (length row.values) within))
    ∙ ap (λ l. Some (take 1 l)) (drop_more row.values i values.Void (ltb-true i (length row.values) within))))
    ∙ ap (λ o. Some (shown.element_found w (object (suc n)) o))
    (sym (slice_get-get_or row.values i values.Void (ltb-true i (length row.values) within)))

element_hop_there : (w : World) (n i : ℕ) → IsSound w
    → Finds w (element_hop i (suc n)) (option_map
    (λ (row : WorldArray). shown.element_found w (object (suc n)) (slice_get row.values i))
    (array_in w (object (suc n))))
element_hop_there w n i sound =
    ap (option_map (found_as w))
    (said_chained (living_reply w) (length_plan (suc n)) (λ total. element_if (nat_lt i total) i (suc n))
    ∙ ap (option_and_then (λ total. of_world (living_reply w) (element_if (nat_lt i total) i (suc n))))
    (length_there w (suc n) sound))
    ∙ by_array (array_in w (object (suc n))) refl
  where
    by_array : (there : Option WorldArray) → array_in w (object (suc n)) ≡ there
        → option_map (found_as w) (option_and_then
        (λ total. of_world (living_reply w) (element_if (nat_lt i total) i (suc n)))
        (option_map (λ (row : WorldArray). length row.values) there))
        ≡ option_map (λ (row : WorldArray). shown.element_found w (object (suc n)) (slice_get row.values i)) there
    by_array None is = refl
    by_array (Some row) is = element_by w n i row (nat_lt i (length row.values)) sound is refl

-- Steps ---------------------------------------------------------------------------------------------------------------

on_field : (w : World) (name : List ℕ) (n : ℕ) → IsLive w
    → Finds w (by_id n (missing no_such_name) (field_hop name))
    (if_null n (Some (Err no_such_name)) (shown.field_on w name (object n)))
on_field w name zero live = missing_there w no_such_name
on_field w name (suc n) live = field_hop_there w name (suc n) live

on_length : (w : World) (name : List ℕ) (n : ℕ) → IsLive w
    → Finds w (by_id n (missing no_such_name) (length_hop name))
    (if_null n (Some (Err no_such_name)) (shown.length_on w name (object n)))
on_length w name zero live = missing_there w no_such_name
on_length w name (suc n) live = length_by w (suc n) (bytes_eq name (codes "length")) live.sound

on_string : (w : World) (n : ℕ)
    → Finds w (missing no_such_name) (if_null n (Some (Err no_such_name)) (Some (Err no_such_name)))
on_string w zero = missing_there w no_such_name
on_string w (suc n) = missing_there w no_such_name

name_there : (w : World) (name : List ℕ) (value : Value) → IsLive w
    → Finds w (name_on name value) (shown.name_on w name value)
name_there w name (values.Array o) live = on_length w name o.0 live
name_there w name (values.String o) live = on_string w o.0
name_there w name (values.Object o) live = on_field w name o.0 live
name_there w name (values.Thread o) live = on_field w name o.0 live
name_there w name (values.ThreadGroup o) live = on_field w name o.0 live
name_there w name (values.ClassLoader o) live = on_field w name o.0 live
name_there w name (values.ClassObject o) live = on_field w name o.0 live
name_there w name _ live = missing_there w no_such_name

on_element : (w : World) (i n : ℕ) → IsSound w
    → Finds w (by_id n (missing bad_index) (element_hop i)) (if_null n (Some (Err bad_index)) (option_map
    (λ (row : WorldArray). shown.element_found w (object n) (slice_get row.values i)) (array_in w (object n))))
on_element w i zero sound = missing_there w bad_index
on_element w i (suc n) sound = element_hop_there w n i sound

index_there : (w : World) (i : ℕ) (value : Value) → IsSound w → Finds w (index_on i value) (shown.index_on w i value)
index_there w i (values.Array o) sound = on_element w i o.0 sound
index_there w i _ sound = missing_there w bad_index

pub hop_there : (w : World) (hop : Hop) (value : Value) → IsLive w → Finds w (hop_on hop value) (shown.step_on w hop value)
hop_there w (hops.Field name) value live = name_there w name value live
hop_there w (hops.Index i) value live = index_there w i value live.sound

-- it goes on where a value was found
goes_on : (w : World) (go : Valued → Plan machine.Sought) (on : Placed → Option shown.Sought)
    → ((v : Valued) → Finds w (go v) (on (placed w v))) → (s : Option machine.Sought)
    → option_map (found_as w) (option_and_then (λ (s : machine.Sought). of_world (living_reply w) (on_value go s)) s)
    ≡ option_and_then (shown.from_found on) (option_map (found_as w) s)
unfolding of_world
goes_on w go on same None = refl
goes_on w go on same (Some (Ok v)) = same v
goes_on w go on same (Some (Err failure)) = refl

steps_there : (w : World) (steps : List Hop) (v : Valued) → IsLive w
    → Finds w (hops_on steps v) (shown.steps_on w steps (placed w v))
unfolding of_world
steps_there w [] v live = refl
steps_there w (hop ∷ others) v live =
    ap (option_map (found_as w)) (said_chained (living_reply w) (hop_on hop v.value) (on_value (hops_on others)))
    ∙ goes_on w (hops_on others) (shown.steps_on w others) (λ v. steps_there w others v live)
    (of_world (living_reply w) (hop_on hop v.value))
    ∙ ap (option_and_then (shown.from_found (shown.steps_on w others))) (hop_there w hop v.value live)

-- Heads ---------------------------------------------------------------------------------------------------------------

this_id : (w : World) (value : Value) (n : ℕ)
    → found_as w (this_by value n) ≡ if_null n (Err no_such_name) (shown.sought (Some []) value)
this_id w value zero = refl
this_id w value (suc n) = refl

this_same : (w : World) (value : Value) → found_as w (as_this value) ≡ shown.this_if value (referred value)
this_same w (values.Object o) = this_id w (values.Object o) o.0
this_same w (values.Array o) = this_id w (values.Array o) o.0
this_same w (values.String o) = this_id w (values.String o) o.0
this_same w (values.Thread o) = this_id w (values.Thread o) o.0
this_same w (values.ThreadGroup o) = this_id w (values.ThreadGroup o) o.0
this_same w (values.ClassLoader o) = this_id w (values.ClassLoader o) o.0
this_same w (values.ClassObject o) = this_id w (values.ClassObject o) o.0
this_same w _ = refl

abbrev pub slot_of : Variable → Slot
slot_of v = record { slot = v.slot; tag = first_byte v.signature }

slot_there : (w : World) (frame : FrameThing) (v : Variable) (there : Option WorldFrame)
    → children.frame_row w frame ≡ there
    → option_map (found_as w) (option_map (one_of (is_signature v.signature))
    (of_world (living_reply w) (slots_plan frame (slot_of v ∷ []))))
    ≡ option_map (shown.sought (Some v.signature))
    (option_and_then (λ (row : WorldFrame). children.value_of row.slots v) there)
slot_there w frame v None is =
    ap (λ (o : Option (List Value)). option_map (found_as w) (option_map (one_of (is_signature v.signature)) o))
    (no_slots w frame (slot_of v) [] is)
slot_there w frame v (Some row) is =
    ap (λ (o : Option (List Value)). option_map (found_as w) (option_map (one_of (is_signature v.signature)) o))
    (slots_there w frame row (slot_of v ∷ []) is)
    ∙ one_read w (is_signature v.signature) (children.value_of row.slots v)

head_by : (w : World) (frame : FrameThing) (name : List ℕ) (v : Option Variable) → IsLive w
    → Finds w (named_head frame name v) (shown.variable_found w frame name v)
head_by w frame name (Some v) live =
    ap (option_map (found_as w))
    (said_made (living_reply w) (one_of (is_signature v.signature)) (slots_plan frame (slot_of v ∷ [])))
    ∙ slot_there w frame v (children.frame_row w frame) refl
head_by w frame name None live =
    ap (option_map (found_as w)) (said_chained (living_reply w) (this_plan frame) (name_on name)
    ∙ ap (option_and_then (λ (this : Value). of_world (living_reply w) (name_on name this))) (this_there w frame))
    ∙ by_this (children.this_of w frame)
  where
    by_this : (this : Option Value)
        → option_map (found_as w) (option_and_then (λ (this : Value). of_world (living_reply w)
        (name_on name this)) this)
        ≡ option_and_then (shown.name_on w name) this
    by_this None = refl
    by_this (Some this) = name_there w name this live

pub head_there : (w : World) (frame : FrameThing) (head : Head) → IsLive w
    → Finds w (head_in frame head) (shown.head_in w frame head)
head_there w frame heads.This live =
    ap (option_map (found_as w)) (said_made (living_reply w) as_this (this_plan frame)
    ∙ ap (option_map as_this) (this_there w frame))
    ∙ map_map as_this (found_as w) (children.this_of w frame)
    ∙ map_alike (λ this. found_as w (as_this this)) (λ this. shown.this_if this (referred this)) (this_same w)
    (children.this_of w frame)
head_there w frame (heads.Name name) live =
    ap (option_map (found_as w))
    (said_chained (living_reply w) (variables_plan frame.at.class frame.at.method)
    (λ vs. named_head frame name (variable_named name frame.at.index vs))
    ∙ ap (option_and_then (λ (vs : List Variable). of_world (living_reply w)
    (named_head frame name (variable_named name frame.at.index vs))))
    (variables_there w frame.at.class frame.at.method)
    ∙ ap (λ (vs : List Variable). of_world (living_reply w)
    (named_head frame name (find (λ (v : Variable). bytes_eq v.name name) vs)))
    (slots_same (filter (is_visible frame.at.index) (variables w frame.at.class frame.at.method))))
    ∙ head_by w frame name (find (λ (v : Variable). bytes_eq v.name name) (children.scope_of w frame)) live

-- The look-up ---------------------------------------------------------------------------------------------------------

pub named_there : (w : World) (frame : FrameThing) (e : Expr) → IsLive w
    → Finds w (named_in frame e) (shown.named_in w frame e)
named_there w frame e live =
    ap (option_map (found_as w)) (said_chained (living_reply w) (head_in frame e.head) (on_value (hops_on e.steps)))
    ∙ goes_on w (hops_on e.steps) (shown.steps_on w e.steps) (λ v. steps_there w e.steps v live)
    (of_world (living_reply w) (head_in frame e.head))
    ∙ ap (option_and_then (shown.from_found (shown.steps_on w e.steps))) (head_there w frame e.head live)

shown_there : (w : World) (types : Bool) (s : Option machine.Sought) → IsSound w
    → option_and_then (λ (s : machine.Sought). of_world (living_reply w) (shown_value types s)) s
    ≡ option_and_then (shown.sought_shown w types) (option_map (found_as w) s)
unfolding of_world
shown_there w types None sound = refl
shown_there w types (Some (Ok v)) sound =
    said_made (living_reply w) found.Value (seen_plan types v)
    ∙ ap (option_map found.Value) (seen_there w types v sound)
shown_there w types (Some (Err failure)) sound = refl

pub shows_values : ShowsValues
shows_values w state frame e live =
    let types = state.options.shows_types in
    living w (value_plan types frame e) live.alive
    ∙ said_chained (living_reply w) (named_in frame e) (shown_value types)
    ∙ shown_there w types (of_world (living_reply w) (named_in frame e)) live.sound
    ∙ ap (option_and_then (shown.sought_shown w types)) (named_there w frame e live)

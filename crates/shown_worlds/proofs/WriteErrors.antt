-- With which errors it is refused to say what is written.
use Rattle.std.proofs.Common.{◌≡◌, ◌∷◌, ◌++◌, ℕ, zero, suc, Bool, true, false, List, [], map, Option, Some, None, refl, sym}
use Rattle.std.proofs.Common.{◌∙◌, subst, length, ⊎_elim}
use Rattle.std.specs.Prelude.{bytes_eq, filter, nat_lt}
use Rattle.std.specs.List.{AllByRecursion}
use Rattle.std.specs.Str.Parse.{digits_value}
use Rattle.dap_messages.specs.Telling.{no_such_name}
use Rattle.jdwp_values.specs.declared.class.Variable.{Variable}
use Rattle.jdwp_values.specs.declared.value.Value.{Value}
use Rattle.machine_model.specs.Children.{Child, FieldOf, Place, by_slot, is_visible, locals_plan, object_fields}
use Rattle.machine_model.specs.Children.{object_named, of_classes, of_index, of_this, of_variable, visible_plan, with_this}
use Rattle.machine_model.specs.Plans.{chained, gives}
use Rattle.machine_model.specs.Values.{by_id, declared_plan, element_of, length_plan}
use Rattle.machine_model.specs.Values.{type_plan, behind_bracket}
use Rattle.machine_model.specs.Writing.{Writing, child_named, child_written, digits_of, element_by, element_store}
use Rattle.machine_model.specs.Writing.{field_store, field_written, index_written, is_index_name, is_this}
use Rattle.machine_model.specs.Writing.{slot_store, sought_in, value_for, write_by, write_with}
use Rattle.machine_model.specs.declared.parts.Finding.TheVariants as found
use Rattle.machine_model.specs.declared.parts.Store.{Store}
use Rattle.shown_worlds.specs.ChildRows as children
use Rattle.shown_worlds.specs.Facts.{variables}
use Rattle.shown_worlds.specs.FailureRows.{why_no_children, why_no_object, why_no_receiver}
use Rattle.shown_worlds.specs.Laws.{IsLive}
use Rattle.shown_worlds.proofs.ChildErrors.{locals_why, map_some, never, object_class}
use Rattle.shown_worlds.proofs.ChildLaws.{heard, locals_there, visible_there}
use Rattle.shown_worlds.proofs.FactLaws.{object}
use Rattle.shown_worlds.proofs.FieldLaws.{child_of, children_there, classes_heard, heard_children}
use Rattle.shown_worlds.proofs.PlanErrors.{Errs, errs_chained, errs_made}
use Rattle.shown_worlds.proofs.RowLemmas.{found_all}
use Rattle.shown_worlds.proofs.ValueErrors.{class_gone, class_why, length_errs, type_class, why_array, why_gone}
use Rattle.shown_worlds.proofs.ValueLaws.{length_there}
use Rattle.stop_refs.specs.declared.thing.FrameThing.{FrameThing}
use Rattle.stop_refs.specs.declared.thing.Thing.{Thing}
use Rattle.stop_refs.specs.declared.thing.Thing.TheVariants as things
use Rattle.world_model.specs.Codes.{invalid_object, not_implemented}
use Rattle.world_model.specs.Objects.{array_in, class_of}
use Rattle.world_model.specs.Replies.{living_reply}
use Rattle.world_model.specs.declared.rows.WorldArray.{WorldArray}
use Rattle.world_model.specs.declared.world.World.{World}

-- Children ------------------------------------------------------------------------------------------------------------

-- the signature of its place is told
abbrev IsTold : World → Child → Type 0
IsTold w child = (code : ℕ) → Errs (living_reply w) code (declared_plan child.declared) → ⊥

variables_told : (w : World) (vs : List Variable) → AllByRecursion (IsTold w) (map of_variable vs)
variables_told w [] = tt
variables_told w (v ∷ others) = (λ code h. absurd h, variables_told w others)

locals_told : (w : World) (this : Value) (n : ℕ) (vs : List Variable)
    → AllByRecursion (IsTold w) (of_this this n ++ map of_variable vs)
locals_told w this zero vs = variables_told w vs
locals_told w this (suc n) vs = (λ code h. absurd h, variables_told w vs)

fields_told : (w : World) (fields : List FieldOf) → AllByRecursion (IsTold w) (map (child_of w) fields)
fields_told w [] = tt
fields_told w (f ∷ others) = (λ code h. absurd h, fields_told w others)

-- of children whose places are told nothing is refused
named_told : (w : World) (writing : Writing) (store : Place → Option Store) (name : List ℕ) (list : List Child)
    (code : ℕ) → AllByRecursion (IsTold w) list
    → Errs (living_reply w) code (child_written writing store (child_named name list)) → ⊥
named_told w writing store name list code told h = by_child (child_named name list) refl h
  where
    by_child : (child : Option Child) → child_named name list ≡ child
        → Errs (living_reply w) code (child_written writing store child) → ⊥
    by_child None is h = h
    by_child (Some child) is h =
        found_all (IsTold w) (λ (c : Child). bytes_eq c.name name) list told child is code
        (errs_made (living_reply w) code
        (λ declared. write_with writing (store child.place) declared (value_for declared writing.text))
        (declared_plan child.declared) h)

-- Containers ----------------------------------------------------------------------------------------------------------

local_errs : (w : World) (writing : Writing) (frame : FrameThing) (name : List ℕ) (this : Bool) (code : ℕ)
    → Errs (living_reply w) code (chained (sought_in frame this)
    (λ list. child_written writing (slot_store frame) (child_named name list)))
    → code ≡ why_no_receiver w frame
local_errs w writing frame name false code h =
    ⊎_elim (λ one. absurd (never w code (visible_plan frame) (heard w frame) (visible_there w frame) one))
    (λ more. absurd (named_told w writing (slot_store frame) name more.0 code
    (subst (AllByRecursion (IsTold w)) (same_heard (heard w frame) more.0 (sym (visible_there w frame) ∙ more.1))
    (variables_told w (by_slot (filter (is_visible frame.at.index)
    (variables w frame.at.class frame.at.method))))) more.2))
    (errs_chained (living_reply w) code (visible_plan frame)
    (λ list. child_written writing (slot_store frame) (child_named name list)) h)
  where
    same_heard : (a b : List Child) → ◌≡◌ {A = Option (List Child)} (Some a) (Some b) → a ≡ b
    same_heard a b is = cc
local_errs w writing frame name true code h =
    ⊎_elim (λ one. locals_why w frame code one)
    (λ more. let this = map_some (λ this. with_this (this, heard w frame)) (children.this_of w frame) more.0
    (sym (locals_there w frame) ∙ more.1) in
    absurd (named_told w writing (slot_store frame) name more.0 code
    (subst (AllByRecursion (IsTold w)) this.2 (locals_told w this.0 (object_named this.0)
    (by_slot (filter (is_visible frame.at.index) (variables w frame.at.class frame.at.method))))) more.2))
    (errs_chained (living_reply w) code (locals_plan frame)
    (λ list. child_written writing (slot_store frame) (child_named name list)) h)

field_errs : (w : World) (writing : Writing) (name : List ℕ) (n code : ℕ) → IsLive w
    → Errs (living_reply w) code (field_written writing name n) → code ≡ why_no_object w (object n)
field_errs w writing name n code live h =
    ⊎_elim (λ one. class_why w n code (object_class w n code live one))
    (λ more. let class = map_some (heard_children w live) (class_of w (object n)) more.0
    (sym (children_there w live n) ∙ more.1) in
    absurd (named_told w writing (field_store n) name more.0 code
    (subst (AllByRecursion (IsTold w)) class.2
    (fields_told w (of_classes [] (classes_heard w class.0 live).classes))) more.2))
    (errs_chained (living_reply w) code (object_fields n)
    (λ list. child_written writing (field_store n) (child_named name list)) h)

-- an array that is there has a class
array_class : (w : World) (n : ℕ) (row : WorldArray) → array_in w (object n) ≡ Some row
    → class_of w (object n) ≡ None → ⊥
array_class w n row is gone =
    let other : not_implemented ≡ invalid_object
    = sym (why_array w (object n) row is) ∙ why_gone w (object n) gone in cc

element_errs : (w : World) (writing : Writing) (n i code : ℕ) (row : WorldArray) (within named : Bool)
    → array_in w (object (suc n)) ≡ Some row
    → Errs (living_reply w) code (element_by writing within named (suc n) i) → ⊥
element_errs w writing n i code row false named is h = h
element_errs w writing n i code row true false is h = h
element_errs w writing n i code row true true is h =
    array_class w (suc n) row is (class_gone w (suc n) code (type_class w (suc n) code
    (errs_made (living_reply w) code behind_bracket (type_plan (suc n))
    (errs_made (living_reply w) code
    (λ declared. write_with writing (element_store (suc n) (of_index (suc n) i).place) declared
    (value_for declared writing.text)) (declared_plan (element_of (suc n))) h))))

index_errs : (w : World) (writing : Writing) (name : List ℕ) (n code : ℕ) (is : Bool) → IsLive w
    → Errs (living_reply w) code (index_written writing name is (suc n)) → code ≡ why_no_object w (object (suc n))
index_errs w writing name n code false live h = absurd h
index_errs w writing name n code true live h =
    let i = digits_value 10 (digits_of name) in
    ⊎_elim (λ one. length_errs w (suc n) code one)
    (λ more. let row = map_some (λ (r : WorldArray). length r.values) (array_in w (object (suc n))) more.0
    (sym (length_there w (suc n) live.sound) ∙ more.1) in
    absurd (element_errs w writing n i code row.0 (nat_lt i more.0) (bytes_eq name (children.element_name i)) row.1
    more.2))
    (errs_chained (living_reply w) code (length_plan (suc n))
    (λ total. element_by writing (nat_lt i total) (bytes_eq name (children.element_name i)) (suc n) i) h)

in_object : (w : World) (writing : Writing) (name : List ℕ) (n code : ℕ) → IsLive w
    → Errs (living_reply w) code (by_id n (gives (found.NoValue no_such_name)) (field_written writing name))
    → code ≡ why_no_object w (object n)
in_object w writing name zero code live h = absurd h
in_object w writing name (suc n) code live h = field_errs w writing name (suc n) code live h

in_array : (w : World) (writing : Writing) (name : List ℕ) (n code : ℕ) → IsLive w
    → Errs (living_reply w) code
    (by_id n (gives (found.NoValue no_such_name)) (index_written writing name (is_index_name name)))
    → code ≡ why_no_object w (object n)
in_array w writing name zero code live h = absurd h
in_array w writing name (suc n) code live h = index_errs w writing name n code (is_index_name name) live h

pub write_errs : (w : World) (writing : Writing) (thing : Thing) (name : List ℕ) (code : ℕ) → IsLive w
    → Errs (living_reply w) code (write_by writing thing name) → code ≡ why_no_children w thing
write_errs w writing (things.Frame frame) name code live h = absurd h
write_errs w writing (things.Locals frame) name code live h = local_errs w writing frame name (is_this name) code h
write_errs w writing (things.Object id) name code live h = in_object w writing name id.0 code live h
write_errs w writing (things.Array id) name code live h = in_array w writing name id.0 code live h

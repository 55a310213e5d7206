-- With which errors the value of an expression is refused.
use Rattle.std.proofs.Common.{◌≡◌, ◌∷◌, ℕ, zero, suc, Bool, true, false, List, [], Option, Some, None, sym, ap, ◌∙◌}
use Rattle.std.proofs.Common.{⊎_elim}
use Rattle.std.specs.Prelude.{bytes_eq, codes, filter, find, nat_lt, option_map, Ok, Err}
use Rattle.std.specs.Option.{option_map_or}
use Rattle.dap_messages.specs.Telling.{bad_index, no_such_name}
use Rattle.field_exprs.specs.declared.expr.Expr.{Expr}
use Rattle.field_exprs.specs.declared.expr.Head.{Head}
use Rattle.field_exprs.specs.declared.expr.Head.TheVariants as heads
use Rattle.field_exprs.specs.declared.expr.Hop.{Hop}
use Rattle.field_exprs.specs.declared.expr.Hop.TheVariants as hops
use Rattle.jdwp_values.specs.declared.class.Field.{Field}
use Rattle.jdwp_values.specs.declared.class.Variable.{Variable}
use Rattle.jdwp_values.specs.declared.value.Value.{Value}
use Rattle.jdwp_values.specs.declared.value.Value.TheVariants as values
use Rattle.machine_model.specs.Children.{is_visible, reach, this_plan, variables_plan}
use Rattle.machine_model.specs.Expressions.{as_length, as_this, class_field, element_hop, element_if, field_from}
use Rattle.machine_model.specs.Expressions.{field_hop, field_value, head_in, hop_on, hops_on, index_on, length_hop}
use Rattle.machine_model.specs.Expressions.{length_if, missing, name_on, named_head, named_in, on_value, one_of}
use Rattle.machine_model.specs.Expressions.{shown_value, value_plan, variable_named}
use Rattle.machine_model.specs.Expressions as machine
use Rattle.machine_model.specs.Plans.{Plan, chained, of_world}
use Rattle.machine_model.specs.Values.{Valued, by_id, class_plan, element_of, is_signature, length_plan, seen_plan}
use Rattle.machine_model.specs.Variables.{elements_plan, field_values, slots_plan}
use Rattle.machine_model.specs.declared.parts.Finding.TheVariants as found
use Rattle.shown_worlds.specs.ExpressionRows as shown
use Rattle.shown_worlds.specs.Facts.{if_null, variables}
use Rattle.shown_worlds.specs.FailureRows.{why_behind, why_from, why_no_head, why_no_name, why_no_object}
use Rattle.shown_worlds.specs.FailureRows.{why_no_receiver, why_no_steps, why_no_value, why_not_shown}
use Rattle.shown_worlds.specs.FieldRows as rows
use Rattle.shown_worlds.specs.Laws.{IsLive}
use Rattle.shown_worlds.proofs.ChildErrors.{never}
use Rattle.shown_worlds.proofs.ExpressionLaws.{found_as, head_there, hop_there, slot_of}
use Rattle.shown_worlds.proofs.FactLaws.{object}
use Rattle.shown_worlds.proofs.LocalLaws.{slots_same, this_there, variables_there}
use Rattle.shown_worlds.proofs.PlanErrors.{Errs, errs_chained, errs_made, errs_none, errs_over}
use Rattle.shown_worlds.proofs.SearchLaws.{searched}
use Rattle.shown_worlds.proofs.ValueErrors.{class_why, elements_errs, fields_errs, length_errs, seen_errs, slots_errs}
use Rattle.shown_worlds.proofs.ValueErrors.{this_errs}
use Rattle.stop_refs.specs.declared.thing.FrameThing.{FrameThing}
use Rattle.world_model.specs.Codes.{invalid_object}
use Rattle.world_model.specs.Replies.{living_reply}
use Rattle.world_model.specs.declared.world.World.{World}

-- Steps ---------------------------------------------------------------------------------------------------------------

field_errs : (w : World) (n code : ℕ) (f : Option Field) → Errs (living_reply w) code (field_value n f)
    → code ≡ why_no_object w (object n)
field_errs w n code None h = absurd h
field_errs w n code (Some f) h =
    fields_errs w n code (f.id ∷ [])
    (errs_made (living_reply w) code (one_of (is_signature f.signature)) (field_values n (f.id ∷ [])) h)

-- the classes of an object are told
field_hop_errs : (w : World) (name : List ℕ) (n code : ℕ) → IsLive w
    → Errs (living_reply w) code (field_hop name n) → code ≡ why_no_object w (object n)
field_hop_errs w name n code live h =
    ⊎_elim (λ one. class_why w n code one) (λ more. ⊎_elim (λ one. absurd (never w code
    (field_from reach [] name more.0.0)
    (option_map (λ (it : rows.FieldOf). it.field) (find (λ (it : rows.FieldOf). bytes_eq it.field.name name)
    (rows.object_fields w more.0))) (searched w name more.0 live) one))
    (λ behind. field_errs w n code behind.0 behind.2)
    (errs_chained (living_reply w) code (field_from reach [] name more.0.0) (field_value n) more.2))
    (errs_chained (living_reply w) code (class_plan n) (class_field name n) h)

length_if_errs : (w : World) (n code : ℕ) (is : Bool) → Errs (living_reply w) code (length_if is n)
    → code ≡ why_no_object w (object n)
length_if_errs w n code false h = absurd h
length_if_errs w n code true h =
    length_errs w n code (errs_made (living_reply w) code as_length (length_plan n) h)

element_if_errs : (w : World) (i n code : ℕ) (within : Bool) → Errs (living_reply w) code (element_if within i n)
    → code ≡ why_no_object w (object n)
element_if_errs w i n code false h = absurd h
element_if_errs w i n code true h =
    elements_errs w n i 1 code (errs_made (living_reply w) code (one_of (element_of n)) (elements_plan n i 1) h)

element_hop_errs : (w : World) (i n code : ℕ) → Errs (living_reply w) code (element_hop i n)
    → code ≡ why_no_object w (object n)
element_hop_errs w i n code h =
    ⊎_elim (λ one. length_errs w n code one) (λ more. element_if_errs w i n code (nat_lt i more.0) more.2)
    (errs_chained (living_reply w) code (length_plan n) (λ total. element_if (nat_lt i total) i n) h)

-- of null nothing is asked
by_errs : (w : World) (n code : ℕ) (failure : _) (other : ℕ → Plan machine.Sought)
    → ((m : ℕ) → Errs (living_reply w) code (other (suc m)) → code ≡ why_no_object w (object (suc m)))
    → Errs (living_reply w) code (by_id n (missing failure) other)
    → code ≡ if_null n invalid_object (why_no_object w (object n))
by_errs w zero code failure other so h = absurd h
by_errs w (suc n) code failure other so h = so n h

on_field : (w : World) (name : List ℕ) (n code : ℕ) → IsLive w
    → Errs (living_reply w) code (by_id n (missing no_such_name) (field_hop name))
    → code ≡ if_null n invalid_object (why_no_object w (object n))
on_field w name n code live h =
    by_errs w n code no_such_name (field_hop name) (λ m. field_hop_errs w name (suc m) code live) h

name_errs : (w : World) (name : List ℕ) (value : Value) (code : ℕ) → IsLive w
    → Errs (living_reply w) code (name_on name value) → code ≡ why_not_shown w value
name_errs w name (values.Array o) code live h = by_errs w o.0 code no_such_name (length_hop name)
    (λ m. length_if_errs w (suc m) code (bytes_eq name (codes "length"))) h
name_errs w name (values.Object o) code live h = on_field w name o.0 code live h
name_errs w name (values.Thread o) code live h = on_field w name o.0 code live h
name_errs w name (values.ThreadGroup o) code live h = on_field w name o.0 code live h
name_errs w name (values.ClassLoader o) code live h = on_field w name o.0 code live h
name_errs w name (values.ClassObject o) code live h = on_field w name o.0 code live h
name_errs w name _ code live h = absurd h

index_errs : (w : World) (i : ℕ) (value : Value) (code : ℕ) → Errs (living_reply w) code (index_on i value)
    → code ≡ why_not_shown w value
index_errs w i (values.Array o) code h =
    by_errs w o.0 code bad_index (element_hop i) (λ m. element_hop_errs w i (suc m) code) h
index_errs w i _ code h = absurd h

hop_errs : (w : World) (hop : Hop) (value : Value) (code : ℕ) → IsLive w
    → Errs (living_reply w) code (hop_on hop value) → code ≡ why_not_shown w value
hop_errs w (hops.Field name) value code live h = name_errs w name value code live h
hop_errs w (hops.Index i) value code live h = index_errs w i value code h

-- a step that comes to an error finds nothing
no_step : (w : World) (hop : Hop) (value : Value) (code : ℕ) → IsLive w
    → Errs (living_reply w) code (hop_on hop value) → shown.step_on w hop value ≡ None
no_step w hop value code live h =
    sym (hop_there w hop value live)
    ∙ ap (option_map (found_as w)) (errs_none (living_reply w) code (hop_on hop value) h)

shown_errs : (w : World) (types : Bool) (v : Valued) (code : ℕ)
    → Errs (living_reply w) code (shown_value types (Ok v)) → code ≡ why_not_shown w v.value
shown_errs w types v code h =
    seen_errs w types v code (errs_made (living_reply w) code found.Value (seen_plan types v) h)

-- the steps from a value on, and how it is shown to what they lead
steps_errs : (w : World) (types : Bool) (steps : List Hop) (v : Valued) (code : ℕ) → IsLive w
    → Errs (living_reply w) code (chained (hops_on steps v) (shown_value types)) → code ≡ why_no_steps w steps v.value
unfolding chained
steps_errs w types [] v code live h = shown_errs w types v code h
steps_errs w types (hop ∷ others) v code live h =
    ⊎_elim (λ one. hop_errs w hop v.value code live one
    ∙ ap (why_behind w (why_no_steps w others) v.value) (sym (no_step w hop v.value code live one)))
    (λ more. by_found (λ next. steps_errs w types others next code live) more.0 more.1 more.2)
    (errs_chained (living_reply w) code (hop_on hop v.value)
    (λ s. chained (on_value (hops_on others) s) (shown_value types))
    (errs_over (living_reply w) code (hop_on hop v.value) (on_value (hops_on others)) (shown_value types) h))
  where
    by_found : ((next : Valued) → Errs (living_reply w) code (chained (hops_on others next) (shown_value types))
        → code ≡ why_no_steps w others next.value)
        → (s : machine.Sought) → of_world (living_reply w) (hop_on hop v.value) ≡ Some s
        → Errs (living_reply w) code (chained (on_value (hops_on others) s) (shown_value types))
        → code ≡ why_behind w (why_no_steps w others) v.value (shown.step_on w hop v.value)
    by_found on (Ok next) is more = on next more
        ∙ ap (why_behind w (why_no_steps w others) v.value)
        (ap (option_map (found_as w)) (sym is) ∙ hop_there w hop v.value live)
    by_found on (Err failure) is more = absurd more

-- Heads ---------------------------------------------------------------------------------------------------------------

-- without a receiver there is none of its fields
name_head_errs : (w : World) (frame : FrameThing) (name : List ℕ) (v : Option Variable) (code : ℕ) → IsLive w
    → Errs (living_reply w) code (named_head frame name v) → code ≡ why_no_name w frame v
name_head_errs w frame name (Some v) code live h =
    slots_errs w frame code (slot_of v ∷ [])
    (errs_made (living_reply w) code (one_of (is_signature v.signature)) (slots_plan frame (slot_of v ∷ [])) h)
name_head_errs w frame name None code live h =
    ⊎_elim (λ one. this_errs w frame code one
    ∙ ap (λ (o : Option Value). option_map_or (why_not_shown w) o (why_no_receiver w frame))
    (sym (errs_none (living_reply w) code (this_plan frame) one) ∙ this_there w frame))
    (λ more. name_errs w name more.0 code live more.2
    ∙ ap (λ (o : Option Value). option_map_or (why_not_shown w) o (why_no_receiver w frame))
    (sym more.1 ∙ this_there w frame))
    (errs_chained (living_reply w) code (this_plan frame) (name_on name) h)

head_errs : (w : World) (frame : FrameThing) (head : Head) (code : ℕ) → IsLive w
    → Errs (living_reply w) code (head_in frame head) → code ≡ why_no_head w frame head
head_errs w frame heads.This code live h =
    this_errs w frame code (errs_made (living_reply w) code as_this (this_plan frame) h)
head_errs w frame (heads.Name name) code live h =
    ⊎_elim (λ one. absurd (never w code (variables_plan frame.at.class frame.at.method)
    (variables w frame.at.class frame.at.method) (variables_there w frame.at.class frame.at.method) one))
    (λ more. name_head_errs w frame name (variable_named name frame.at.index more.0) code live more.2
    ∙ ap (λ (vs : List Variable). why_no_name w frame (variable_named name frame.at.index vs))
    (let same : more.0 ≡ variables w frame.at.class frame.at.method
    = one_heard (sym more.1 ∙ variables_there w frame.at.class frame.at.method) in same)
    ∙ ap (λ (vs : List Variable). why_no_name w frame (find (λ (v : Variable). bytes_eq v.name name) vs))
    (slots_same (filter (is_visible frame.at.index) (variables w frame.at.class frame.at.method))))
    (errs_chained (living_reply w) code (variables_plan frame.at.class frame.at.method)
    (λ vs. named_head frame name (variable_named name frame.at.index vs)) h)
  where
    one_heard : {a b : List Variable} → ◌≡◌ {A = Option (List Variable)} (Some a) (Some b) → a ≡ b
    one_heard is = cc

-- The look-up ---------------------------------------------------------------------------------------------------------

pub value_errs : (w : World) (types : Bool) (frame : FrameThing) (e : Expr) (code : ℕ) → IsLive w
    → Errs (living_reply w) code (value_plan types frame e) → code ≡ why_no_value w frame e
unfolding chained
value_errs w types frame e code live h =
    ⊎_elim (λ one. head_errs w frame e.head code live one
    ∙ ap (why_from w frame e) (ap (option_map (found_as w)) (sym (errs_none (living_reply w) code
    (head_in frame e.head) one)) ∙ head_there w frame e.head live))
    (λ more. by_found more.0 more.1 more.2)
    (errs_chained (living_reply w) code (head_in frame e.head)
    (λ s. chained (on_value (hops_on e.steps) s) (shown_value types))
    (errs_over (living_reply w) code (head_in frame e.head) (on_value (hops_on e.steps)) (shown_value types) h))
  where
    by_found : (s : machine.Sought) → of_world (living_reply w) (head_in frame e.head) ≡ Some s
        → Errs (living_reply w) code (chained (on_value (hops_on e.steps) s) (shown_value types))
        → code ≡ why_from w frame e (shown.head_in w frame e.head)
    by_found (Ok next) is more = steps_errs w types e.steps next code live more
        ∙ ap (why_from w frame e) (ap (option_map (found_as w)) (sym is) ∙ head_there w frame e.head live)
    by_found (Err failure) is more = absurd more

-- What `evaluate` shows: the value of an expression in a frame, from its head on step by step (DAP specification, Evaluate
-- request; Java Language Specification, Expressions, Field Access Expressions and Array Access Expressions).
use Rattle.std.specs.Prelude.{ℕ, zero, suc, pos, List, [], ◌∷◌, ◌++◌, ◌==◌, Bool, true, false, bytes_eq, codes, filter}
use Rattle.std.specs.Prelude.{find, nat_lt, Option, None, Some, Result, Ok, Err}
use Rattle.std.specs.List.{list_any}
use Rattle.dap_messages.specs.Telling.{bad_index, no_such_name}
use Rattle.field_exprs.specs.declared.expr.Expr.{Expr}
use Rattle.field_exprs.specs.declared.expr.Head.{Head}
use Rattle.field_exprs.specs.declared.expr.Head.TheVariants as heads
use Rattle.field_exprs.specs.declared.expr.Hop.{Hop}
use Rattle.field_exprs.specs.declared.expr.Hop.TheVariants as hops
use Rattle.jdwp_values.specs.declared.class.Field.{Field}
use Rattle.jdwp_values.specs.declared.class.Variable.{Variable}
use Rattle.jdwp_values.specs.declared.value.Value.{Value}
use Rattle.jdwp_values.specs.declared.value.Value.TheVariants as values
use Rattle.machine_model.specs.Children.{above_plan, by_slot, fields_plan, first_byte, is_visible, object_named}
use Rattle.machine_model.specs.Children.{own_fields, reach, this_plan, variables_plan}
use Rattle.machine_model.specs.Names.{ClassId, Failure, Finding, no_value, value_found}
use Rattle.machine_model.specs.Plans.{Plan, chained, gives, made_with}
use Rattle.machine_model.specs.Values.{Declared, Valued, by_id, class_plan, element_of, is_signature, length_plan}
use Rattle.machine_model.specs.Values.{seen_plan}
use Rattle.machine_model.specs.Variables.{elements_plan, field_values, slots_plan}
use Rattle.stop_refs.specs.declared.thing.FrameThing.{FrameThing}

-- Values that may be missing ------------------------------------------------------------------------------------------

-- a value and where it stands, or why there is none
abbrev pub Sought : Type 0
Sought = Result Valued Failure

abbrev pub missing : Failure → Plan Sought
missing failure = gives (Err failure)

-- where there is a value it goes on
abbrev pub on_value : (Valued → Plan Sought) → Sought → Plan Sought
on_value go (Ok v) = go v
on_value go (Err failure) = missing failure

-- the one value that was asked for
abbrev pub one_of : Declared → List Value → Sought
one_of declared [] = Err no_such_name
one_of declared (value ∷ others) = Ok (record { value = value; declared = declared })

-- Fields --------------------------------------------------------------------------------------------------------------

-- the first of a class's fields that has a name
abbrev pub field_named : List ℕ → List Field → Option Field
field_named name fields = find (λ f. bytes_eq f.name name) (own_fields fields)

-- it is there, or it is sought above
abbrev pub found_or : Option Field → Plan (Option Field) → Plan (Option Field)
found_or (Some f) above = gives (Some f)
found_or None above = above

-- The first field of a name from a class upwards, in so many steps at most, up to null or to a class that was met (Java
-- Language Specification, Classes, Field Declarations, Hiding).
unfoldable pub field_from : ℕ → List ℕ → List ℕ → ℕ → Plan (Option Field)
field_from zero met name class = gives None
field_from (suc steps) met name zero = gives None
field_from (suc steps) met name (suc class) = elim (list_any (λ other. other == suc class) met) [
  | true ↦ gives None
  | false ↦ chained (fields_plan (suc class)) (λ fields. found_or (field_named name fields)
      (chained (above_plan (suc class)) (λ above. field_from steps (met ++ suc class ∷ []) name above.0)))
]

-- the value of a field (JDWP, ObjectReference command set, GetValues)
abbrev pub field_value : ℕ → Option Field → Plan Sought
field_value id None = missing no_such_name
field_value id (Some f) = made_with (one_of (is_signature f.signature)) (field_values id (f.id ∷ []))

abbrev pub class_field : List ℕ → ℕ → ClassId → Plan Sought
class_field name id class = chained (field_from reach [] name class.0) (field_value id)

-- a field of an object
abbrev pub field_hop : List ℕ → ℕ → Plan Sought
field_hop name id = chained (class_plan id) (class_field name id)

-- an array has its length alone (Java Language Specification, Arrays, Array Members)
abbrev pub as_length : ℕ → Sought
as_length total = Ok (record { value = values.Int (pos total); declared = is_signature (codes "I") })

abbrev pub length_if : Bool → ℕ → Plan Sought
length_if true id = made_with as_length (length_plan id)
length_if false id = missing no_such_name

abbrev pub length_hop : List ℕ → ℕ → Plan Sought
length_hop name id = length_if (bytes_eq name (codes "length")) id

-- Elements ------------------------------------------------------------------------------------------------------------

-- an element inside an array (JDWP, ArrayReference command set, GetValues)
abbrev pub element_if : Bool → ℕ → ℕ → Plan Sought
element_if true i id = made_with (one_of (element_of id)) (elements_plan id i 1)
element_if false i id = missing bad_index

abbrev pub element_hop : ℕ → ℕ → Plan Sought
element_hop i id = chained (length_plan id) (λ total. element_if (nat_lt i total) i id)

-- Steps ---------------------------------------------------------------------------------------------------------------

-- a name on a value: null, a string and what is no reference have none
abbrev pub name_on : List ℕ → Value → Plan Sought
name_on name (values.Array o) = by_id o.0 (missing no_such_name) (length_hop name)
name_on name (values.String o) = missing no_such_name
name_on name value = by_id (object_named value) (missing no_such_name) (field_hop name)

-- an index on a value: only an array has elements
abbrev pub index_on : ℕ → Value → Plan Sought
index_on i (values.Array o) = by_id o.0 (missing bad_index) (element_hop i)
index_on i value = missing bad_index

abbrev pub hop_on : Hop → Value → Plan Sought
hop_on (hops.Field name) value = name_on name value
hop_on (hops.Index i) value = index_on i value

-- the steps, from left to right
abbrev pub hops_on : List Hop → Valued → Plan Sought
hops_on [] v = gives (Ok v)
hops_on (hop ∷ others) v = chained (hop_on hop v.value) (on_value (hops_on others))

-- Heads ---------------------------------------------------------------------------------------------------------------

-- the receiver, which a static method has none of
abbrev pub this_by : Value → ℕ → Sought
this_by value zero = Err no_such_name
this_by value (suc id) = Ok (record { value = value; declared = is_signature [] })

abbrev pub as_this : Value → Sought
as_this value = this_by value (object_named value)

-- the first variable of a name, of those that are visible
abbrev pub variable_named : List ℕ → ℕ → List Variable → Option Variable
variable_named name index variables = find (λ v. bytes_eq v.name name) (by_slot (filter (is_visible index) variables))

-- a variable, else a field of the receiver
abbrev pub named_head : FrameThing → List ℕ → Option Variable → Plan Sought
named_head frame name None = chained (this_plan frame) (name_on name)
named_head frame name (Some v) = made_with (one_of (is_signature v.signature))
    (slots_plan frame (record { slot = v.slot; tag = first_byte v.signature } ∷ []))

abbrev pub head_in : FrameThing → Head → Plan Sought
head_in frame heads.This = made_with as_this (this_plan frame)
head_in frame (heads.Name name) = chained (variables_plan frame.at.class frame.at.method)
    (λ variables. named_head frame name (variable_named name frame.at.index variables))

-- The look-up ---------------------------------------------------------------------------------------------------------

-- what an expression names
abbrev pub named_in : FrameThing → Expr → Plan Sought
named_in frame e = chained (head_in frame e.head) (on_value (hops_on e.steps))

-- it is shown as variables are
abbrev pub shown_value : Bool → Sought → Plan Finding
shown_value types (Ok v) = made_with value_found (seen_plan types v)
shown_value types (Err failure) = gives (no_value failure)

abbrev pub value_plan : Bool → FrameThing → Expr → Plan Finding
value_plan types frame e = chained (named_in frame e) (shown_value types)

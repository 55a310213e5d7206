-- A plan of one question behind the other, once caught, comes to what the plan itself comes to, errors handed on; and
-- what an expression names is such a plan.
use Rattle.std.proofs.Common.{◌≡◌, ℕ, zero, suc, Bool, true, false, not, List, [], ◌∷◌, ◌++◌, Option, Some, None, refl}
use Rattle.std.specs.Prelude.{Result as Tried, Ok, Err, ◌==◌, option_and_then, nat_lt, bytes_eq, codes}
use Rattle.std.specs.List.{list_any}
use Rattle.field_exprs.specs.declared.expr.Expr.{Expr}
use Rattle.field_exprs.specs.declared.expr.Head.{Head}
use Rattle.field_exprs.specs.declared.expr.Head.TheVariants as heads
use Rattle.field_exprs.specs.declared.expr.Hop.{Hop}
use Rattle.field_exprs.specs.declared.expr.Hop.TheVariants as hops
use Rattle.jdwp_values.specs.declared.class.Field.{Field}
use Rattle.jdwp_values.specs.declared.class.Variable.{Variable}
use Rattle.jdwp_values.specs.declared.value.Value.{Value}
use Rattle.jdwp_values.specs.declared.value.Value.TheVariants as values
use Rattle.machine_model.specs.Caught.{IsChain, ValueOf, caught, handed_on, is_right}
use Rattle.machine_model.specs.Children.{above_plan, fields_plan, object_named, reach, this_plan, variables_plan}
use Rattle.machine_model.specs.Expressions.{Sought, as_this, class_field, element_hop, element_if, field_from, field_hop}
use Rattle.machine_model.specs.Expressions.{field_named, field_value, found_or, head_in, hop_on, hops_on, index_on}
use Rattle.machine_model.specs.Expressions.{length_hop, length_if, name_on, named_head, named_in, on_value}
use Rattle.machine_model.specs.Expressions.{variable_named}
use Rattle.machine_model.specs.Facts.{fact_known, fact_of, is_of_class}
use Rattle.machine_model.specs.Names.{Answer, ClassId, Question, Replied, Want, an_answer, an_error}
use Rattle.machine_model.specs.Plans.{Found, Plan, Refusal, Sight, after, answer_in, chained, fact_heard, found_from}
use Rattle.machine_model.specs.Plans.{gives, made_with, may_hear, must_by, must_hear, must_say, need, of_world, pairs}
use Rattle.machine_model.specs.Plans.{tried_of, tries, try_hear, wants}
use Rattle.machine_model.specs.Values.{Valued, by_id, class_plan, length_plan}
use Rattle.stop_refs.specs.declared.thing.FrameThing.{FrameThing}

-- By the replies so far -----------------------------------------------------------------------------------------------

-- it goes on with the caught rest as with the rest itself, errors handed on
abbrev Goes : {A B : Type 0} → Sight → (B → Plan A) → (B → Plan (Tried A Refusal)) → Type 0
Goes {B = B} sight rest caught_rest = (heard : B) → need sight (caught_rest heard) ≡ handed_on (need sight (rest heard))

denied : (is : Bool) → not is ≡ true → is ≡ false
denied true is = cc
denied false is = refl

by_must : {A : Type 0} (sight : Sight) (question : Question) (rest : Option Answer → Plan A)
    → is_of_class question ≡ false
    → ((answer : Answer) → need sight (caught (rest (Some answer))) ≡ handed_on (need sight (rest (Some answer))))
    → (found : Option Found)
    → after (try_hear question found) (λ heard. need sight (elim heard [
      | Ok answer ↦ caught (rest (Some answer))
      | Err why ↦ gives (Err why)
    ])) ≡ handed_on (after (must_hear question found) (λ heard. need sight (rest heard)))
unfolding need
by_must sight question rest no_fact k None = refl
by_must {A} sight question rest no_fact k (Some found) = by_replied found.place found.replied
  where
    by_replied : (place : ℕ) (replied : Replied)
        → need sight (elim (tried_of question replied) [
          | Ok answer ↦ caught (rest (Some answer))
          | Err why ↦ gives {A = Tried A Refusal} (Err why)
        ]) ≡ handed_on (after (must_by place replied) (λ heard. need sight (rest heard)))
    by_replied place (an_answer answer) = k answer
    by_replied place (an_error code) = rw no_fact refl

by_may : {A : Type 0} (sight : Sight) (question : Question) (rest : Option Answer → Plan A)
    → Goes sight rest (λ heard. caught (rest heard)) → (found : Option Found)
    → after (may_hear question found) (λ heard. need sight (caught (rest heard)))
    ≡ handed_on (after (may_hear question found) (λ heard. need sight (rest heard)))
by_may sight question rest k None = refl
by_may sight question rest k (Some found) = k (answer_in found.replied)

by_fact : {A : Type 0} (sight : Sight) (question : Question) (rest : Option Answer → Plan A)
    → Goes sight rest (λ heard. caught (rest heard)) → (known : Option (Option Answer)) (found : Option Found)
    → after (fact_heard question known found) (λ heard. need sight (caught (rest heard)))
    ≡ handed_on (after (fact_heard question known found) (λ heard. need sight (rest heard)))
by_fact sight question rest k (Some answer) found = k answer
by_fact sight question rest k None None = refl
by_fact sight question rest k None (Some found) = k (fact_of question (answer_in found.replied))

by_try : {A : Type 0} (sight : Sight) (question : Question) (rest : Tried Answer Refusal → Plan A)
    → Goes sight rest (λ heard. caught (rest heard)) → (found : Option Found)
    → after (try_hear question found) (λ heard. need sight (caught (rest heard)))
    ≡ handed_on (after (try_hear question found) (λ heard. need sight (rest heard)))
by_try sight question rest k None = refl
by_try sight question rest k (Some found) = k (tried_of question found.replied)

-- A plan of one question behind the other, once caught, comes to what the plan itself comes to, errors handed on.
pub caught_need : {A : Type 0} (sight : Sight) (p : Plan A) → IsChain p → need sight (caught p) ≡ handed_on (need sight p)
unfolding need caught IsChain
caught_need sight (gives a) c = refl
caught_need sight (wants (Want.Must question) rest) c =
    by_must sight question rest (denied (is_of_class question) c.0)
    (λ answer. caught_need sight (rest (Some answer)) (c.1 (Some answer)))
    (found_from 0 sight.asked question)
caught_need sight (wants (Want.May question) rest) c =
    by_may sight question rest (λ heard. caught_need sight (rest heard) (c.1 heard)) (found_from 0 sight.asked question)
caught_need sight (wants (Want.Fact question) rest) c =
    by_fact sight question rest (λ heard. caught_need sight (rest heard) (c.1 heard)) (fact_known sight.classes question)
    (found_from 0 sight.asked question)
caught_need sight (tries question rest) c =
    by_try sight question rest (λ heard. caught_need sight (rest heard) (c heard)) (found_from 0 sight.asked question)
caught_need sight (pairs p q rest) c = absurd c

-- In a world ----------------------------------------------------------------------------------------------------------

-- and has a value in each world: the plan's own, or why it has none
pub caught_there : {A : Type 0} (world : Question → Replied) (p : Plan A) → IsChain p
    → ValueOf (of_world world (caught p)) (of_world world p)
unfolding of_world caught IsChain
caught_there world (gives a) c = refl
caught_there {A} world (wants (Want.Must question) rest) c =
    by_replied (world question) (λ answer. caught_there world (rest (Some answer)) (c.1 (Some answer)))
  where
    by_replied : (replied : Replied)
        → ((answer : Answer)
        → ValueOf (of_world world (caught (rest (Some answer)))) (of_world world (rest (Some answer))))
        → ValueOf (of_world world (elim (tried_of question replied) [
          | Ok answer ↦ caught (rest (Some answer))
          | Err why ↦ gives {A = Tried A Refusal} (Err why)
        ])) (option_and_then (λ heard. of_world world (rest heard)) (must_say replied))
    by_replied (an_answer answer) k = k answer
    by_replied (an_error code) k = refl
caught_there world (wants (Want.May question) rest) c =
    caught_there world (rest (answer_in (world question))) (c.1 (answer_in (world question)))
caught_there world (wants (Want.Fact question) rest) c =
    let said = fact_of question (answer_in (world question)) in caught_there world (rest said) (c.1 said)
caught_there world (tries question rest) c =
    caught_there world (rest (tried_of question (world question))) (c (tried_of question (world question)))
caught_there world (pairs p q rest) c = absurd c

-- Chains --------------------------------------------------------------------------------------------------------------

pub chains : {A B : Type 0} (p : Plan A) (f : A → Plan B) → IsChain p → ((a : A) → IsChain (f a)) → IsChain (chained p f)
unfolding IsChain chained
chains (gives a) f c k = k a
chains (wants want rest) f c k = (c.0, λ heard. chains (rest heard) f (c.1 heard) k)
chains (tries question rest) f c k = λ heard. chains (rest heard) f (c heard) k
chains (pairs p q rest) f c k = absurd c

pub makes : {A B : Type 0} (f : A → B) (p : Plan A) → IsChain p → IsChain (made_with f p)
unfolding IsChain made_with
makes f (gives a) c = tt
makes f (wants want rest) c = (c.0, λ heard. makes f (rest heard) (c.1 heard))
makes f (tries question rest) c = λ heard. makes f (rest heard) (c heard)
makes f (pairs p q rest) c = absurd c

pub one : {A : Type 0} (want : Want) (read : Option Answer → A) → is_right want ≡ true
    → IsChain (wants want (λ heard. gives (read heard)))
unfolding IsChain
one want read is = (is, λ heard. tt)

pub none : {A : Type 0} (a : A) → IsChain (gives a)
unfolding IsChain
none a = tt

pub if_there : {A : Type 0} (id : ℕ) (null : Plan A) (other : ℕ → Plan A) → IsChain null → ((id : ℕ) → IsChain (other id))
    → IsChain (by_id id null other)
if_there zero null other c k = c
if_there (suc id) null other c k = k (suc id)

either_field : (found : Option Field) (above : Plan (Option Field)) → IsChain above → IsChain (found_or found above)
either_field (Some f) above c = none (Some f)
either_field None above c = c

from_class : (steps : ℕ) (met name : List ℕ) (class : ℕ) → IsChain (field_from steps met name class)
unfolding field_from
from_class zero met name class = none None
from_class (suc steps) met name zero = none None
from_class (suc steps) met name (suc class) =
    by_met (list_any (λ other. other == suc class) met) (λ above. from_class steps (met ++ suc class ∷ []) name above.0)
  where
    by_met : (was : Bool) → ((above : ClassId) → IsChain (field_from steps (met ++ suc class ∷ []) name above.0))
        → IsChain (elim was [
          | true ↦ gives {A = Option Field} None
          | false ↦ chained (fields_plan (suc class)) (λ fields. found_or (field_named name fields)
              (chained (above_plan (suc class)) (λ above. field_from steps (met ++ suc class ∷ []) name above.0)))
        ])
    by_met true k = none None
    by_met false k = chains (fields_plan (suc class)) _ (one _ _ refl)
        (λ fields. either_field (field_named name fields) _ (chains (above_plan (suc class)) _ (one _ _ refl) k))

of_field : (id : ℕ) (found : Option Field) → IsChain (field_value id found)
of_field id None = none (Err _)
of_field id (Some f) = makes _ _ (one _ _ refl)

of_object : (name : List ℕ) (id : ℕ) → IsChain (field_hop name id)
of_object name id = chains (class_plan id) (class_field name id) (one _ _ refl)
    (λ class. chains (field_from reach [] name class.0) (field_value id) (from_class reach [] name class.0) (of_field id))

of_length : (is : Bool) (id : ℕ) → IsChain (length_if is id)
of_length true id = makes _ (length_plan id) (one _ _ refl)
of_length false id = none (Err _)

on_name : (name : List ℕ) (value : Value) → IsChain (name_on name value)
on_name name (values.Array o) = if_there o.0 _ (length_hop name) (none (Err _))
    (λ id. of_length (bytes_eq name (codes "length")) id)
on_name name (values.String o) = none (Err _)
on_name name value = if_there (object_named value) _ (field_hop name) (none (Err _)) (of_object name)

of_element : (is : Bool) (i id : ℕ) → IsChain (element_if is i id)
of_element true i id = makes _ _ (one _ _ refl)
of_element false i id = none (Err _)

on_index : (i : ℕ) (value : Value) → IsChain (index_on i value)
on_index i (values.Array o) = if_there o.0 _ (element_hop i) (none (Err _))
    (λ id. chains (length_plan id) _ (one _ _ refl) (λ total. of_element (nat_lt i total) i id))
on_index i _ = none (Err _)

on_hop : (hop : Hop) (value : Value) → IsChain (hop_on hop value)
on_hop (hops.Field name) value = on_name name value
on_hop (hops.Index i) value = on_index i value

on_sought : (go : Valued → Plan Sought) (sought : Sought) → ((v : Valued) → IsChain (go v))
    → IsChain (on_value go sought)
on_sought go (Ok v) k = k v
on_sought go (Err failure) k = none (Err failure)

on_hops : (steps : List Hop) (v : Valued) → IsChain (hops_on steps v)
on_hops [] v = none (Ok v)
on_hops (hop ∷ others) v = chains (hop_on hop v.value) (on_value (hops_on others)) (on_hop hop v.value)
    (λ sought. on_sought (hops_on others) sought (on_hops others))

at_name : (frame : FrameThing) (name : List ℕ) (found : Option Variable) → IsChain (named_head frame name found)
at_name frame name None = chains (this_plan frame) (name_on name) (one _ _ refl) (on_name name)
at_name frame name (Some v) = makes _ _ (one _ _ refl)

at_head : (frame : FrameThing) (head : Head) → IsChain (head_in frame head)
at_head frame heads.This = makes as_this (this_plan frame) (one _ _ refl)
at_head frame (heads.Name name) = chains (variables_plan frame.at.class frame.at.method) _ (one _ _ refl)
    (λ variables. at_name frame name (variable_named name frame.at.index variables))

-- what an expression names is found by one question behind the other
pub names_by_chain : (frame : FrameThing) (e : Expr) → IsChain (named_in frame e)
names_by_chain frame e = chains (head_in frame e.head) (on_value (hops_on e.steps)) (at_head frame e.head)
    (λ sought. on_sought (hops_on e.steps) sought (on_hops e.steps))

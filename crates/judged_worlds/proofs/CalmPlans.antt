-- Plans none of whose errors says that a thread has ended: where such a plan has no value, another error is why.
use Rattle.std.proofs.Common.{◌≡◌, ℕ, zero, suc, Bool, true, false, List, [], ◌∷◌, ◌++◌, Option, Some, None, refl, cond}
use Rattle.std.proofs.Common.{ap, sym, ◌∙◌}
use Rattle.std.specs.Prelude.{Result as Tried, Ok, Err, ◌==◌, bytes_eq, codes, nat_lt, if◌then◌else◌, ok_or, length, pos, ◌^◌}
use Rattle.std.specs.List.{list_any}
use Rattle.field_exprs.specs.declared.expr.Expr.{Expr}
use Rattle.field_exprs.specs.declared.expr.Head.{Head}
use Rattle.field_exprs.specs.declared.expr.Head.TheVariants as heads
use Rattle.field_exprs.specs.declared.expr.Hop.{Hop}
use Rattle.field_exprs.specs.declared.expr.Hop.TheVariants as hops
use Rattle.jdwp_commands.specs.declared.answer.Answer.{Answer}
use Rattle.jdwp_commands.specs.declared.answer.Answer.TheVariants as answers
use Rattle.jdwp_commands.specs.declared.listed.Slot.{Slot}
use Rattle.jdwp_commands.specs.declared.question.Question.{Question}
use Rattle.jdwp_commands.specs.declared.question.Question.TheVariants as questions
use Rattle.jdwp_values.specs.declared.class.Field.{Field}
use Rattle.jdwp_values.specs.declared.class.Variable.{Variable}
use Rattle.jdwp_values.specs.declared.id.FieldId.{FieldId}
use Rattle.jdwp_values.specs.declared.id.ObjectId.{ObjectId}
use Rattle.jdwp_values.specs.declared.tag.TypeTag.{TypeTag}
use Rattle.jdwp_values.specs.declared.id.ClassId.{ClassId}
use Rattle.jdwp_values.specs.declared.value.Value.{Value}
use Rattle.jdwp_values.specs.declared.value.Value.TheVariants as values
use Rattle.machine_model.specs.Caught.{caught}
use Rattle.machine_model.specs.Children.{above_plan, fields_plan, first_byte, object_named, reach, this_plan}
use Rattle.machine_model.specs.Children.{variables_plan}
use Rattle.machine_model.specs.Expressions.{Sought, as_this, class_field, element_hop, element_if, field_from, field_hop}
use Rattle.machine_model.specs.Expressions.{field_named, field_value, found_or, head_in, hop_on, hops_on, index_on}
use Rattle.machine_model.specs.Expressions.{length_hop, length_if, name_on, named_head, named_in, on_value}
use Rattle.machine_model.specs.Expressions.{variable_named}
use Rattle.machine_model.specs.Facts.{is_of_class}
use Rattle.machine_model.specs.Judging.{array_text, object_text, shown_text, string_text}
use Rattle.machine_model.specs.Plans.{Plan, Refusal, chained, gives, made_with, of_world, other_error, pairs, tried_of}
use Rattle.machine_model.specs.Plans.{tries, wants}
use Rattle.machine_model.specs.declared.acts.Want.{Want}
use Rattle.machine_model.specs.Values.{Valued, by_id, class_plan, length_plan, text_plan, type_plan}
use Rattle.stop_refs.specs.declared.thing.FrameThing.{FrameThing}
use Rattle.world_model.specs.Classes.{and_then}
use Rattle.world_model.specs.Codes.{told}
use Rattle.world_model.specs.Objects as rows
use Rattle.world_model.specs.Replies.{living_reply}
use Rattle.world_model.specs.Threads as threads
use Rattle.world_model.specs.declared.world.World.{World}

-- Errors --------------------------------------------------------------------------------------------------------------

-- the error isn't that of a thread that has ended (JDWP, Error Constants, INVALID_THREAD)
abbrev IsOther : {A : Type 0} → Tried A ℕ → Type 0
IsOther (Ok a) = Unit {0}
IsOther (Err code) = (code == 10) ≡ false

other_or : {A : Type 0} (o : Option A) (code : ℕ) → (code == 10) ≡ false → IsOther (ok_or o code)
other_or None code other = other
other_or (Some a) code other = tt

other_then : {A B : Type 0} (f : A → Tried B ℕ) (r : Tried A ℕ) → IsOther r → ((a : A) → IsOther (f a))
    → IsOther (and_then f r)
other_then f (Ok a) other k = k a
other_then f (Err code) other k = other

other_fault : (w : World) (id : ObjectId) → (rows.object_fault w id == 10) ≡ false
other_fault w id = by_there (rows.is_there w id)
  where
    by_there : (is : Bool) → ((if is then 99 else 20) == 10) ≡ false
    by_there true = refl
    by_there false = refl

other_counted : (n : ℕ) → IsOther (threads.counted n)
other_counted n = by_few (nat_lt n (2 ^ 31))
  where
    by_few : (few : Bool) → IsOther {A = ℕ} (if few then Ok n else Err 99)
    by_few true = tt
    by_few false = refl

other_asked : (w : World) (frame : FrameThing) → threads.is_alive w frame.thread ≡ true
    → IsOther (threads.frame_at w frame.thread frame.frame)
other_asked w frame alive =
    other_then (λ _. ok_or (threads.frame_in w frame.thread frame.frame) 99) (threads.may_ask w frame.thread)
    (by_alive (threads.is_alive w frame.thread) (w.count == 0) alive)
    (λ _. other_or (threads.frame_in w frame.thread frame.frame) 99 refl)
  where
    by_alive : (is runs : Bool) → is ≡ true
        → IsOther {A = Unit {0}} (if is then if runs then Err 99 else Ok tt else Err 10)
    by_alive true true alive = refl
    by_alive true false alive = tt
    by_alive false runs alive = cc

-- Plans ---------------------------------------------------------------------------------------------------------------

-- an error that the world replies to the question isn't that of a thread that has ended
abbrev pub IsCalm : World → Question → Type 0
IsCalm w question = (why : Refusal) → tried_of question (living_reply w question) ≡ Err why → why ≡ other_error

calm_by : {A : Type 0} (w : World) (question : Question) (answer : A → Answer) (r : Tried A ℕ)
    → living_reply w question ≡ told answer r → is_of_class question ≡ false → IsOther r → IsCalm w question
calm_by {A} w question answer r replied no_fact other =
    λ why is. by_result r other why (ap (tried_of question) (sym replied) ∙ is)
  where
    by_result : (r : Tried A ℕ) → IsOther r → (why : Refusal) → tried_of question (told answer r) ≡ Err why
        → why ≡ other_error
    by_result (Ok a) other why is = cc
    by_result (Err code) other why is = cc

-- all that a plan must ask is so; nothing is side by side
unfoldable pub Calm : {A : Type 0} → World → Plan A → Type 0
Calm w (gives a) = Unit {0}
Calm w (wants (Want.Must question) rest) = IsCalm w question × ((heard : Option Answer) → Calm w (rest heard))
Calm w (wants (Want.May question) rest) = (heard : Option Answer) → Calm w (rest heard)
Calm w (wants (Want.Fact question) rest) = (heard : Option Answer) → Calm w (rest heard)
Calm w (tries question rest) = (heard : Tried Answer Refusal) → Calm w (rest heard)
Calm w (pairs p q rest) = ⊥

-- where it has no value, that isn't since a thread has ended
pub calm_other : {A : Type 0} (w : World) (p : Plan A) (why : Refusal) → Calm w p
    → of_world (living_reply w) (caught p) ≡ Some (Err why) → why ≡ other_error
unfolding of_world caught Calm
calm_other w (gives a) why c is = cc
calm_other {A} w (wants (Want.Must question) rest) why c is =
    by_tried (tried_of question (living_reply w question)) refl is
    (λ answer is. calm_other w (rest (Some answer)) why (c.1 (Some answer)) is)
  where
    by_tried : (heard : Tried Answer Refusal) → tried_of question (living_reply w question) ≡ heard
        → of_world (living_reply w) (elim heard [
          | Ok answer ↦ caught (rest (Some answer))
          | Err other ↦ gives {A = Tried A Refusal} (Err other)
        ]) ≡ Some (Err why)
        → ((answer : Answer) → of_world (living_reply w) (caught (rest (Some answer))) ≡ Some (Err why)
        → why ≡ other_error)
        → why ≡ other_error
    by_tried (Ok answer) heard is k = k answer is
    by_tried (Err other) heard is k = c.0 why (heard ∙ cc)
calm_other w (wants (Want.May question) rest) why c is = calm_other w (rest _) why (c _) is
calm_other w (wants (Want.Fact question) rest) why c is = calm_other w (rest _) why (c _) is
calm_other w (tries question rest) why c is = calm_other w (rest _) why (c _) is
calm_other w (pairs p q rest) why c is = absurd c

chains : {A B : Type 0} (w : World) (p : Plan A) (f : A → Plan B) → Calm w p → ((a : A) → Calm w (f a))
    → Calm w (chained p f)
unfolding Calm chained
chains w (gives a) f c k = k a
chains w (wants (Want.Must question) rest) f c k = (c.0, λ heard. chains w (rest heard) f (c.1 heard) k)
chains w (wants (Want.May question) rest) f c k = λ heard. chains w (rest heard) f (c heard) k
chains w (wants (Want.Fact question) rest) f c k = λ heard. chains w (rest heard) f (c heard) k
chains w (tries question rest) f c k = λ heard. chains w (rest heard) f (c heard) k
chains w (pairs p q rest) f c k = absurd c

makes : {A B : Type 0} (w : World) (f : A → B) (p : Plan A) → Calm w p → Calm w (made_with f p)
unfolding Calm made_with
makes w f (gives a) c = tt
makes w f (wants (Want.Must question) rest) c = (c.0, λ heard. makes w f (rest heard) (c.1 heard))
makes w f (wants (Want.May question) rest) c = λ heard. makes w f (rest heard) (c heard)
makes w f (wants (Want.Fact question) rest) c = λ heard. makes w f (rest heard) (c heard)
makes w f (tries question rest) c = λ heard. makes w f (rest heard) (c heard)
makes w f (pairs p q rest) c = absurd c

must : {A : Type 0} (w : World) (question : Question) (read : Option Answer → A) → IsCalm w question
    → Calm w (wants (Want.Must question) (λ heard. gives (read heard)))
unfolding Calm
must w question read calm = (calm, λ heard. tt)

fact : {A : Type 0} (w : World) (question : Question) (read : Option Answer → A)
    → Calm w (wants (Want.Fact question) (λ heard. gives (read heard)))
unfolding Calm
fact w question read = λ heard. tt

none : {A : Type 0} (w : World) (a : A) → Calm w (gives a)
unfolding Calm
none w a = tt

if_there : {A : Type 0} (w : World) (id : ℕ) (null : Plan A) (other : ℕ → Plan A) → Calm w null
    → ((id : ℕ) → Calm w (other id)) → Calm w (by_id id null other)
if_there w zero null other c k = c
if_there w (suc id) null other c k = k (suc id)

-- Objects -------------------------------------------------------------------------------------------------------------

abbrev object : ℕ → ObjectId
object id = record { 0 = id }

of_class : (w : World) (id : ℕ) → Calm w (class_plan id)
of_class w id = must w _ _ (calm_by w (questions.ObjectType (object id))
    (λ (t : TypeTag × ClassId). answers.ObjectType t.0 t.1) (rows.type_in w (object id)) refl refl (other_or _ 20 refl))

of_length : (w : World) (id : ℕ) → Calm w (length_plan id)
of_length w id = must w _ _ (calm_by w (questions.ArrayLength (object id)) answers.ArrayLength
    (rows.length_in w (object id)) refl refl
    (other_then _ (rows.array_at w (object id)) (other_or (rows.array_in w (object id)) _ (other_fault w (object id)))
    (λ row. other_counted (length row.values))))

of_text : (w : World) (id : ℕ) → Calm w (text_plan id)
of_text w id = must w _ _ (calm_by w (questions.StringValue (object id)) answers.StringValue
    (rows.text_in w (object id)) refl refl (other_or _ _ (other_fault w (object id))))

calm_fields : (w : World) (id : ℕ) (fields : List FieldId) → IsCalm w (questions.GetFields (object id) fields)
calm_fields w id fields = calm_by w (questions.GetFields (object id) fields) answers.GetFields
    (rows.fields_of_object w (object id) fields) refl refl
    (other_then _ (rows.object_at w (object id)) (other_or (rows.object_in w (object id)) _ (other_fault w (object id)))
    (λ row. other_or _ 99 refl))

calm_elements : (w : World) (id i count : ℕ)
    → IsCalm w (questions.GetElements (object id) (pos i) (pos count))
calm_elements w id i count = calm_by w (questions.GetElements (object id) (pos i) (pos count)) answers.GetElements
    (rows.elements_in w (object id) (pos i) (pos count)) refl refl
    (other_then _ (rows.array_at w (object id)) (other_or (rows.array_in w (object id)) _ (other_fault w (object id)))
    (λ row. other_or _ 99 refl))

-- Expressions ---------------------------------------------------------------------------------------------------------

either_field : (w : World) (found : Option Field) (above : Plan (Option Field)) → Calm w above
    → Calm w (found_or found above)
either_field w (Some f) above c = none w (Some f)
either_field w None above c = c

from_class : (w : World) (steps : ℕ) (met name : List ℕ) (class : ℕ) → Calm w (field_from steps met name class)
unfolding field_from
from_class w zero met name class = none w None
from_class w (suc steps) met name zero = none w None
from_class w (suc steps) met name (suc class) =
    by_met (list_any (λ other. other == suc class) met) (λ above. from_class w steps (met ++ suc class ∷ []) name above.0)
  where
    by_met : (was : Bool) → ((above : ClassId) → Calm w (field_from steps (met ++ suc class ∷ []) name above.0))
        → Calm w (elim was [
          | true ↦ gives {A = Option Field} None
          | false ↦ chained (fields_plan (suc class)) (λ fields. found_or (field_named name fields)
              (chained (above_plan (suc class)) (λ above. field_from steps (met ++ suc class ∷ []) name above.0)))
        ])
    by_met true k = none w None
    by_met false k = chains w (fields_plan (suc class)) _ (fact w _ _)
        (λ fields. either_field w (field_named name fields) _ (chains w (above_plan (suc class)) _ (fact w _ _) k))

of_field : (w : World) (id : ℕ) (found : Option Field) → Calm w (field_value id found)
of_field w id None = none w (Err _)
of_field w id (Some f) = makes w _ _ (must w _ _ (calm_fields w id (f.id ∷ [])))

of_object : (w : World) (name : List ℕ) (id : ℕ) → Calm w (field_hop name id)
of_object w name id = chains w (class_plan id) (class_field name id) (of_class w id)
    (λ class. chains w (field_from reach [] name class.0) (field_value id) (from_class w reach [] name class.0)
    (of_field w id))

if_length : (w : World) (is : Bool) (id : ℕ) → Calm w (length_if is id)
if_length w true id = makes w _ (length_plan id) (of_length w id)
if_length w false id = none w (Err _)

on_name : (w : World) (name : List ℕ) (value : Value) → Calm w (name_on name value)
on_name w name (values.Array o) = if_there w o.0 _ (length_hop name) (none w (Err _))
    (λ id. if_length w (bytes_eq name (codes "length")) id)
on_name w name (values.String o) = none w (Err _)
on_name w name value = if_there w (object_named value) _ (field_hop name) (none w (Err _)) (of_object w name)

of_element : (w : World) (is : Bool) (i id : ℕ) → Calm w (element_if is i id)
of_element w true i id = makes w _ _ (must w _ _ (calm_elements w id i 1))
of_element w false i id = none w (Err _)

on_index : (w : World) (i : ℕ) (value : Value) → Calm w (index_on i value)
on_index w i (values.Array o) = if_there w o.0 _ (element_hop i) (none w (Err _))
    (λ id. chains w (length_plan id) _ (of_length w id) (λ total. of_element w (nat_lt i total) i id))
on_index w i _ = none w (Err _)

on_hop : (w : World) (hop : Hop) (value : Value) → Calm w (hop_on hop value)
on_hop w (hops.Field name) value = on_name w name value
on_hop w (hops.Index i) value = on_index w i value

on_sought : (w : World) (go : Valued → Plan Sought) (sought : Sought) → ((v : Valued) → Calm w (go v))
    → Calm w (on_value go sought)
on_sought w go (Ok v) k = k v
on_sought w go (Err failure) k = none w (Err failure)

on_hops : (w : World) (steps : List Hop) (v : Valued) → Calm w (hops_on steps v)
on_hops w [] v = none w (Ok v)
on_hops w (hop ∷ others) v = chains w (hop_on hop v.value) (on_value (hops_on others)) (on_hop w hop v.value)
    (λ sought. on_sought w (hops_on others) sought (on_hops w others))

-- in a frame of a thread that is alive
module _ (w : World) (frame : FrameThing) (alive : threads.is_alive w frame.thread ≡ true) where
  calm_this : IsCalm w (questions.ThisObject frame.thread frame.frame)
  calm_this = calm_by w (questions.ThisObject frame.thread frame.frame) answers.ThisObject
      (rows.this_in w frame.thread frame.frame) refl refl
      (other_then _ (threads.frame_at w frame.thread frame.frame) (other_asked w frame alive)
      (λ row. other_or (rows.reference_in w row.this) 20 refl))

  calm_slots : (slots : List Slot) → IsCalm w (questions.GetSlots frame.thread frame.frame slots)
  calm_slots slots = calm_by w (questions.GetSlots frame.thread frame.frame slots) answers.GetSlots
      (threads.slots_in w frame.thread frame.frame slots) refl refl
      (other_then _ (threads.frame_at w frame.thread frame.frame) (other_asked w frame alive)
      (λ row. other_or _ 99 refl))

  at_name : (name : List ℕ) (found : Option Variable) → Calm w (named_head frame name found)
  at_name name None =
      chains w (this_plan frame) (name_on name) (must w _ _ calm_this) (on_name w name)
  at_name name (Some v) = makes w _ _ (must w _ _
      (calm_slots (record { slot = v.slot; tag = first_byte v.signature } ∷ [])))

  at_head : (head : Head) → Calm w (head_in frame head)
  at_head heads.This = makes w as_this (this_plan frame) (must w _ _ calm_this)
  at_head (heads.Name name) = chains w (variables_plan frame.at.class frame.at.method) _ (fact w _ _)
      (λ variables. at_name name (variable_named name frame.at.index variables))

  -- what an expression names is found without such an error
  pub named_calm : (e : Expr) → Calm w (named_in frame e)
  named_calm e = chains w (head_in frame e.head) (on_value (hops_on e.steps)) (at_head e.head)
      (λ sought. on_sought w (hops_on e.steps) sought (on_hops w e.steps))

-- Texts ---------------------------------------------------------------------------------------------------------------

of_type : (w : World) (id : ℕ) → Calm w (type_plan id)
of_type w id = chains w (class_plan id) _ (of_class w id) (λ class. fact w _ _)

named_object : (w : World) (value : Value) (id : ℕ) → Calm w (object_text value id)
named_object w value id = makes w _ (type_plan id) (of_type w id)

-- and so is the text of a value
pub text_calm : (w : World) (value other : Value) → Calm w (shown_text value other)
text_calm w value (values.Array o) = if_there w o.0 _ (array_text value) (none w _)
    (λ id. chains w (type_plan id) _ (of_type w id) (λ signature. makes w _ (length_plan id) (of_length w id)))
text_calm w value (values.String o) =
    if_there w o.0 _ (string_text value) (none w _) (λ id. makes w _ (text_plan id) (of_text w id))
text_calm w value (values.Object o) = if_there w o.0 _ (object_text value) (none w _) (named_object w value)
text_calm w value (values.Thread o) = if_there w o.0 _ (object_text value) (none w _) (named_object w value)
text_calm w value (values.ThreadGroup o) = if_there w o.0 _ (object_text value) (none w _) (named_object w value)
text_calm w value (values.ClassLoader o) = if_there w o.0 _ (object_text value) (none w _) (named_object w value)
text_calm w value (values.ClassObject o) = if_there w o.0 _ (object_text value) (none w _) (named_object w value)
text_calm w value _ = none w _

-- Look-ups other than that of classes list no classes, and ask nothing of null, and of them that of frames alone asks
-- for frames: by row what its plan may want.
use Rattle.std.proofs.Common.{◌==◌, ◌&&◌, ℕ, zero, suc, pos, Bool, true, false, not, List, [], ◌∷◌, ◌++◌, None, refl}
use Rattle.std.proofs.Common.{Option, Some}
use Rattle.std.specs.Prelude.{codes, Ok, Err, bytes_eq, nat_lt}
use Rattle.std.specs.List.{list_any}
use Rattle.dap_messages.specs.declared.requests.Filter.{Filter}
use Rattle.dap_messages.specs.declared.requests.Filter.TheVariants.{Both, Indexed, Named}
use Rattle.jdwp_commands.specs.declared.answer.Answer.TheVariants as answers
use Rattle.jdwp_commands.specs.declared.listed.Frame.{Frame}
use Rattle.jdwp_commands.specs.declared.listed.Slot.{Slot}
use Rattle.jdwp_commands.specs.declared.question.Question.TheVariants as questions
use Rattle.jdwp_values.specs.Lossy.{lossy}
use Rattle.jdwp_values.specs.declared.id.FieldId.{FieldId}
use Rattle.jdwp_values.specs.declared.value.Value.{Value}
use Rattle.jdwp_values.specs.declared.value.Value.TheVariants as values
use Rattle.machine_model.specs.Children.{Child, FieldOf, above_plan, chain, chain_fields, class_fields, field_plan}
use Rattle.machine_model.specs.Children.{fields_named, fields_plan, listed_variables, locals_plan}
use Rattle.machine_model.specs.Children.{name_plan as field_name_plan, object_fields, of_classes, of_field, reach}
use Rattle.machine_model.specs.Children.{this_in, this_plan, variables_plan, visible_at, visible_plan, with_class}
use Rattle.machine_model.specs.Children.{with_this, Place, index_name, of_index, first_byte}
use Rattle.machine_model.specs.Exceptions.{exception_plan, heard_plan, mode_of, name_by, named_plan, text_by}
use Rattle.machine_model.specs.Exceptions.{text_plan as thrown_text}
use Rattle.machine_model.specs.Facts.{above_in, fields_in, signature_in}
use Rattle.machine_model.specs.Frames.{count_from, count_in, counted_plan, frame_plan, frame_shown, frames_from}
use Rattle.machine_model.specs.Frames.{frames_in, frames_plan, lines_plan as lines_of, methods_plan as methods_of}
use Rattle.machine_model.specs.Frames.{shown_plan, signature_plan as signature_of, source_plan as source_of}
use Rattle.machine_model.specs.Harmless.{is_harmless}
use Rattle.machine_model.specs.Lookups.{name_plan, names_plan, threads_in, threads_plan}
use Rattle.machine_model.specs.Writing.{Writing, child_named, child_written, digits_of, element_by, element_store}
use Rattle.machine_model.specs.Writing.{field_store, field_written, index_written, is_index_name, local_written}
use Rattle.machine_model.specs.Writing.{is_this, slot_store, sought_in, value_for, write_by, write_with}
use Rattle.machine_steps.specs.Names.{Answer, ClassId, ThreadId, Thrown, Want, exception_found, frames_found}
use Rattle.machine_steps.specs.Names.{text_found, Failure, Store, no_value, value_found, variables_found}
use Rattle.std.specs.Str.Parse.{digits_value}
use Rattle.dap_messages.specs.Telling.{bad_index, no_such_name}
use Rattle.field_exprs.specs.declared.expr.Expr.{Expr}
use Rattle.field_exprs.specs.declared.expr.Head.{Head}
use Rattle.field_exprs.specs.declared.expr.Head.TheVariants as heads
use Rattle.field_exprs.specs.declared.expr.Hop.{Hop}
use Rattle.field_exprs.specs.declared.expr.Hop.TheVariants as hops
use Rattle.jdwp_values.specs.declared.class.Field.{Field}
use Rattle.jdwp_values.specs.declared.class.Variable.{Variable}
use Rattle.machine_model.specs.Expressions.{Sought, as_length, as_this, class_field, element_hop, element_if}
use Rattle.machine_model.specs.Expressions.{field_from, field_hop, field_named, field_value, found_or, head_in, hop_on}
use Rattle.machine_model.specs.Expressions.{hops_on, index_on, length_hop, length_if, missing, name_on, named_head}
use Rattle.machine_model.specs.Expressions.{named_in, on_value, one_of, shown_value, value_plan, variable_named}
use Rattle.machine_model.specs.Plans.{Plan, asking, both, chained, each, gives, made_with, question_of}
use Rattle.machine_model.specs.State.{State}
use Rattle.machine_model.specs.Values.{Declared, Valued, array_plan, array_seen, by_id, class_in}
use Rattle.machine_model.specs.Values.{class_plan as class_of, declared_plan, element_of, element_plan, is_signature}
use Rattle.machine_model.specs.Values.{length_in, length_plan, null_plan, object_plan, object_seen, seen_by, seen_plan}
use Rattle.machine_model.specs.Values.{string_plan, string_seen, text_in, text_plan, type_if, type_plan, typed}
use Rattle.machine_model.specs.Variables.{child_plan, children_plan, elements_page, elements_plan, elements_valued}
use Rattle.machine_model.specs.Variables.{field_values, fields_of, fields_page, fields_valued, locals_page}
use Rattle.machine_model.specs.Variables.{locals_valued, page, page_plan, shown_as, shown_plan as values_shown}
use Rattle.machine_model.specs.Variables.{slots_of, slots_plan, values_in, with_known}
use Rattle.machine_laws.proofs.BindingPlans.{AllWants, asks, chains, every, makes, wants_other}
use Rattle.value_views.specs.Names.{class_name}
use Rattle.machine_steps.proofs.Frameless.{asks_stack}
use Rattle.stop_refs.specs.declared.thing.FrameThing.{FrameThing}
use Rattle.stop_refs.specs.declared.thing.Thing.{Thing}
use Rattle.stop_refs.specs.declared.thing.Thing.TheVariants as things

-- a want lists no classes, and asks nothing of null; nor does it ask for frames, or how many there are
abbrev pub is_meek : Want → Bool
is_meek want = wants_other want && is_harmless (question_of want)

abbrev pub is_safe : Want → Bool
is_safe want = is_meek want && not (asks_stack (question_of want))

abbrev Safe : {A : Type 0} → Plan A → Type 0
Safe p = AllWants is_safe p

gives_safe : {A : Type 0} (a : A) → Safe (gives a)
unfolding AllWants
gives_safe a = tt

both_safe : {A B : Type 0} (p : Plan A) (q : Plan B) → Safe p → Safe q → Safe (both p q)
unfolding AllWants
both_safe p q h k = (h, k, λ two. tt)

-- Threads and frames --------------------------------------------------------------------------------------------------

pub threads_safe : Safe threads_plan
threads_safe = chains is_safe (asking threads_in (Want.Must questions.AllThreads)) names_plan
    (asks is_safe threads_in (Want.Must questions.AllThreads) refl)
    (λ threads. makes is_safe _ (each name_plan threads)
    (every is_safe name_plan (λ thread. asks is_safe _ (Want.May (questions.ThreadName thread)) refl) threads))

signature_safe : (class : ClassId) → Safe (signature_of class)
signature_safe class = asks is_safe signature_in (Want.Fact (questions.Signature class)) refl

frame_meek : (state : State) (thread : ThreadId) (frame : Frame) → AllWants is_meek (frame_plan state thread frame)
unfolding AllWants
frame_meek state thread frame = makes is_meek (frame_shown state thread frame)
    (both (both (signature_of frame.at.class) (source_of frame.at.class))
    (both (methods_of frame.at.class) (lines_of frame.at.class frame.at.method)))
    (((refl, λ heard. tt), (refl, λ heard. tt), λ two. tt), ((refl, λ heard. tt), (refl, λ heard. tt), λ two. tt), λ two. tt)

from_meek : (thread : ThreadId) (start count : ℕ) → AllWants is_meek (frames_from thread start count)
unfolding AllWants
from_meek thread start zero = tt
from_meek thread start (suc count) =
    asks is_meek frames_in (Want.Must (questions.Frames thread (pos start) (pos (suc count)))) refl

pub frames_meek : (state : State) (thread : ThreadId) (start levels : ℕ)
    → AllWants is_meek (frames_plan state thread start levels)
frames_meek state thread start levels = chains is_meek (asking count_in (Want.Must (questions.FrameCount thread)))
    (counted_plan state thread start levels)
    (asks is_meek count_in (Want.Must (questions.FrameCount thread)) refl)
    (λ total. chains is_meek (frames_from thread start (count_from total start levels))
    (shown_plan state thread total) (from_meek thread start (count_from total start levels))
    (λ frames. makes is_meek (frames_found total) (each (frame_plan state thread) frames)
    (every is_meek (frame_plan state thread) (frame_meek state thread) frames)))

-- Values --------------------------------------------------------------------------------------------------------------

class_safe : (id : ℕ) → Safe (class_of (suc id))
class_safe id = asks is_safe class_in (Want.Must (questions.ObjectType (record { 0 = suc id }))) refl

type_safe : (id : ℕ) → Safe (type_plan (suc id))
type_safe id = chains is_safe (class_of (suc id)) signature_of (class_safe id) signature_safe

length_safe : (id : ℕ) → Safe (length_plan (suc id))
length_safe id = asks is_safe length_in (Want.Must (questions.ArrayLength (record { 0 = suc id }))) refl

text_safe : (id : ℕ) → Safe (text_plan (suc id))
text_safe id = asks is_safe text_in (Want.Must (questions.StringValue (record { 0 = suc id }))) refl

by_id_safe : {A : Type 0} (id : ℕ) (none : Plan A) (some : ℕ → Plan A) → Safe none → ((id : ℕ) → Safe (some (suc id)))
    → Safe (by_id id none some)
by_id_safe zero none some h k = h
by_id_safe (suc id) none some h k = k id

declared_safe : (declared : Declared) → Safe (declared_plan declared)
declared_safe (is_signature signature) = gives_safe signature
declared_safe (element_of id) = by_id_safe id (gives []) element_plan (gives_safe [])
    (λ id. makes is_safe _ (type_plan (suc id)) (type_safe id))

typed_safe : (types : Bool) (p : Plan (List ℕ)) → Safe p → Safe (typed types p)
typed_safe false p h = gives_safe None
typed_safe true p h = makes is_safe (type_if true) p h

null_safe : (types : Bool) (v : Valued) → Safe (null_plan types v)
null_safe types v = makes is_safe _ (typed types (declared_plan v.declared))
    (typed_safe types (declared_plan v.declared) (declared_safe v.declared))

string_safe : (types : Bool) (value : Value) (id : ℕ) → Safe (string_plan types value (suc id))
string_safe types value id = makes is_safe (string_seen value) (both (text_plan (suc id)) (typed types (type_plan (suc id))))
    (both_safe (text_plan (suc id)) (typed types (type_plan (suc id))) (text_safe id)
    (typed_safe types (type_plan (suc id)) (type_safe id)))

array_safe : (types : Bool) (value : Value) (id : ℕ) → Safe (array_plan types value (suc id))
array_safe types value id = makes is_safe (array_seen types value (suc id)) (both (type_plan (suc id)) (length_plan (suc id)))
    (both_safe (type_plan (suc id)) (length_plan (suc id)) (type_safe id) (length_safe id))

object_safe : (types : Bool) (value : Value) (id : ℕ) → Safe (object_plan types value (suc id))
object_safe types value id = makes is_safe (object_seen types value (suc id)) (type_plan (suc id)) (type_safe id)

seen_safe : (types : Bool) (v : Valued) → Safe (seen_plan types v)
seen_safe types v = by_value v.value
  where
    by_value : (value : Value) → Safe (seen_by types v value)
    by_value (values.Object o) = by_id_safe o.0 _ _ (null_safe types v) (object_safe types v.value)
    by_value (values.Array o) = by_id_safe o.0 _ _ (null_safe types v) (array_safe types v.value)
    by_value (values.String o) = by_id_safe o.0 _ _ (null_safe types v) (string_safe types v.value)
    by_value (values.Thread o) = by_id_safe o.0 _ _ (null_safe types v) (object_safe types v.value)
    by_value (values.ThreadGroup o) = by_id_safe o.0 _ _ (null_safe types v) (object_safe types v.value)
    by_value (values.ClassLoader o) = by_id_safe o.0 _ _ (null_safe types v) (object_safe types v.value)
    by_value (values.ClassObject o) = by_id_safe o.0 _ _ (null_safe types v) (object_safe types v.value)
    by_value _ = gives_safe _

-- What was thrown ------------------------------------------------------------------------------------------------------

pub thrown_safe : (id : ℕ) → Safe (thrown_text id)
thrown_safe id = makes is_safe text_found (by_id id (gives None) named_plan)
    (by_id_safe id (gives None) named_plan (gives_safe None) (λ id. chains is_safe (heard_plan (suc id)) text_by
    (asks is_safe (λ heard. heard) (Want.May (questions.ObjectType (record { 0 = suc id }))) refl) by_heard))
  where
    by_heard : (heard : Option Answer) → Safe (text_by heard)
    by_heard (Some (answers.ObjectType tag class)) = makes is_safe name_by (signature_of class) (signature_safe class)
    by_heard _ = gives_safe None

pub exception_safe : (thrown : Thrown) → Safe (exception_plan thrown)
exception_safe thrown = makes is_safe (λ id. exception_found id (mode_of thrown.caught))
    (by_id thrown.object.0 (gives (codes "null")) (λ id. made_with class_name (type_plan id)))
    (by_id_safe thrown.object.0 (gives (codes "null")) (λ id. made_with class_name (type_plan id))
    (gives_safe (codes "null")) (λ id. makes is_safe class_name (type_plan (suc id)) (type_safe id)))

-- Children ------------------------------------------------------------------------------------------------------------

visible_safe : (f : FrameThing) → Safe (visible_plan f)
visible_safe f = makes is_safe (visible_at f.at.index) (variables_plan f.at.class f.at.method)
    (asks is_safe listed_variables (Want.Fact (questions.VariableTable f.at.class f.at.method)) refl)

locals_safe : (f : FrameThing) → Safe (locals_plan f)
locals_safe f = makes is_safe with_this (both (this_plan f) (visible_plan f))
    (both_safe (this_plan f) (visible_plan f)
    (asks is_safe this_in (Want.Must (questions.ThisObject f.thread f.frame)) refl) (visible_safe f))

chain_safe : (steps : ℕ) (met : List ℕ) (class : ℕ) → Safe (chain steps met class)
unfolding chain
chain_safe (suc steps) met (suc class) =
    by_met (list_any (λ other. other == suc class) met) (chain_safe steps (met ++ suc class ∷ []))
  where
    by_met : (is : Bool) → ((above : ℕ) → Safe (chain steps (met ++ suc class ∷ []) above)) → Safe (elim is [
      | true ↦ gives met
      | false ↦ chained (above_plan (suc class)) (λ above. chain steps (met ++ suc class ∷ []) above.0)
    ])
    by_met true behind = gives_safe met
    by_met false behind = chains is_safe (above_plan (suc class)) (λ above. chain steps (met ++ suc class ∷ []) above.0)
        (asks is_safe above_in (Want.Fact (questions.Superclass (record { 0 = suc class }))) refl)
        (λ above. behind above.0)
chain_safe _ met _ = gives_safe met

class_fields_safe : (class : ℕ) → Safe (class_fields class)
class_fields_safe class = makes is_safe _ (fields_plan class)
    (asks is_safe fields_in (Want.Fact (questions.Fields (record { 0 = class }))) refl)

field_safe : (f : FieldOf) → Safe (field_plan f)
field_safe f = makes is_safe (of_field f.field) (field_name_plan f.class (lossy f.field.name) f.is_met) (by_met f.is_met)
  where
    by_met : (met : Bool) → Safe (field_name_plan f.class (lossy f.field.name) met)
    by_met false = gives_safe _
    by_met true = makes is_safe (with_class (lossy f.field.name)) (signature_of (record { 0 = f.class }))
        (signature_safe (record { 0 = f.class }))

object_fields_safe : (id : ℕ) → Safe (object_fields (suc id))
object_fields_safe id = chains is_safe (chained (class_of (suc id)) chain_fields) fields_named
    (chains is_safe (class_of (suc id)) chain_fields (class_safe id)
    (λ class. chains is_safe (chain reach [] class.0) (each class_fields) (chain_safe reach [] class.0)
    (every is_safe class_fields class_fields_safe)))
    (λ classes. every is_safe field_plan field_safe (of_classes [] classes))

-- Pages ---------------------------------------------------------------------------------------------------------------

slots_safe : (f : FrameThing) (slots : List Slot) → Safe (slots_plan f slots)
slots_safe f [] = gives_safe []
slots_safe f (slot ∷ slots) =
    asks is_safe values_in (Want.Must (questions.GetSlots f.thread f.frame (slot ∷ slots))) refl

field_values_safe : (id : ℕ) (fields : List FieldId) → Safe (field_values (suc id) fields)
field_values_safe id [] = gives_safe []
field_values_safe id (field ∷ fields) =
    asks is_safe values_in (Want.Must (questions.GetFields (record { 0 = suc id }) (field ∷ fields))) refl

elements_safe : (id start count : ℕ) → Safe (elements_plan (suc id) start count)
elements_safe id start zero = gives_safe []
elements_safe id start (suc count) =
    asks is_safe values_in (Want.Must (questions.GetElements (record { 0 = suc id }) (pos start) (pos (suc count)))) refl

locals_page_safe : (f : FrameThing) (start count : ℕ) → Safe (locals_page f start count)
locals_page_safe f start count = chains is_safe (locals_plan f)
    (λ children. locals_valued f (page start count children)) (locals_safe f)
    (λ children. makes is_safe (with_known (page start count children)) (slots_plan f (slots_of (page start count children)))
    (slots_safe f (slots_of (page start count children))))

fields_page_safe : (start count id : ℕ) → Safe (fields_page start count (suc id))
fields_page_safe start count id = chains is_safe (object_fields (suc id))
    (λ children. fields_valued (suc id) (page start count children)) (object_fields_safe id)
    (λ children. makes is_safe _ (field_values (suc id) (fields_of (page start count children)))
    (field_values_safe id (fields_of (page start count children))))

elements_page_safe : (start count id : ℕ) → Safe (elements_page start count (suc id))
elements_page_safe start count id = chains is_safe (length_plan (suc id))
    (λ total. elements_valued (suc id) start (count_from total start count)) (length_safe id)
    (λ total. makes is_safe _ (elements_plan (suc id) start (count_from total start count))
    (elements_safe id start (count_from total start count)))

page_safe : (thing : Thing) (filter : Filter) (start count : ℕ) → Safe (page_plan thing filter start count)
page_safe (things.Locals f) Both start count = locals_page_safe f start count
page_safe (things.Locals f) Named start count = locals_page_safe f start count
page_safe (things.Object o) Both start count =
    by_id_safe o.0 (gives []) (fields_page start count) (gives_safe []) (fields_page_safe start count)
page_safe (things.Object o) Named start count =
    by_id_safe o.0 (gives []) (fields_page start count) (gives_safe []) (fields_page_safe start count)
page_safe (things.Array o) Both start count =
    by_id_safe o.0 (gives []) (elements_page start count) (gives_safe []) (elements_page_safe start count)
page_safe (things.Array o) Indexed start count =
    by_id_safe o.0 (gives []) (elements_page start count) (gives_safe []) (elements_page_safe start count)
page_safe _ _ start count = gives_safe []

child_safe : (types : Bool) (two : Child × Value) → Safe (child_plan types two)
child_safe types two = makes is_safe (shown_as two.0.name)
    (seen_plan types (record { value = two.1; declared = two.0.declared }))
    (seen_safe types (record { value = two.1; declared = two.0.declared }))

pub children_safe : (types : Bool) (thing : Thing) (filter : Filter) (start count : ℕ)
    → Safe (children_plan types thing filter start count)
children_safe types thing filter start count = makes is_safe variables_found
    (chained (page_plan thing filter start count) (values_shown types))
    (chains is_safe (page_plan thing filter start count) (values_shown types) (page_safe thing filter start count)
    (every is_safe (child_plan types) (child_safe types)))

-- Expressions ---------------------------------------------------------------------------------------------------------

missing_safe : (failure : Failure) → Safe (missing failure)
missing_safe failure = gives_safe (Err failure)

on_safe : (go : Valued → Plan Sought) → ((v : Valued) → Safe (go v)) → (sought : Sought) → Safe (on_value go sought)
on_safe go k (Ok v) = k v
on_safe go k (Err failure) = missing_safe failure

found_safe : (found : Option Field) (above : Plan (Option Field)) → Safe above → Safe (found_or found above)
found_safe (Some f) above k = gives_safe (Some f)
found_safe None above k = k

field_from_safe : (steps : ℕ) (met : List ℕ) (name : List ℕ) (class : ℕ) → Safe (field_from steps met name class)
unfolding field_from
field_from_safe (suc steps) met name (suc class) =
    by_met (list_any (λ other. other == suc class) met) (field_from_safe steps (met ++ suc class ∷ []) name)
  where
    next : Plan (Option Field)
    next = chained (above_plan (suc class)) (λ above. field_from steps (met ++ suc class ∷ []) name above.0)

    by_met : (is : Bool) → ((above : ℕ) → Safe (field_from steps (met ++ suc class ∷ []) name above)) → Safe (elim is [
      | true ↦ gives None
      | false ↦ chained (fields_plan (suc class)) (λ fields. found_or (field_named name fields) next)
    ])
    by_met true behind = gives_safe None
    by_met false behind = chains is_safe (fields_plan (suc class)) (λ fields. found_or (field_named name fields) next)
        (asks is_safe fields_in (Want.Fact (questions.Fields (record { 0 = suc class }))) refl)
        (λ fields. found_safe (field_named name fields) next (chains is_safe (above_plan (suc class))
        (λ above. field_from steps (met ++ suc class ∷ []) name above.0)
        (asks is_safe above_in (Want.Fact (questions.Superclass (record { 0 = suc class }))) refl)
        (λ above. behind above.0)))
field_from_safe _ met name _ = gives_safe None

field_value_safe : (id : ℕ) (f : Option Field) → Safe (field_value (suc id) f)
field_value_safe id None = missing_safe no_such_name
field_value_safe id (Some f) = makes is_safe (one_of (is_signature f.signature)) (field_values (suc id) (f.id ∷ []))
    (field_values_safe id (f.id ∷ []))

field_hop_safe : (name : List ℕ) (id : ℕ) → Safe (field_hop name (suc id))
field_hop_safe name id = chains is_safe (class_of (suc id)) (class_field name (suc id)) (class_safe id)
    (λ class. chains is_safe (field_from reach [] name class.0) (field_value (suc id))
    (field_from_safe reach [] name class.0) (field_value_safe id))

length_hop_safe : (name : List ℕ) (id : ℕ) → Safe (length_hop name (suc id))
length_hop_safe name id = by_name (bytes_eq name (codes "length"))
  where
    by_name : (is : Bool) → Safe (length_if is (suc id))
    by_name true = makes is_safe as_length (length_plan (suc id)) (length_safe id)
    by_name false = missing_safe no_such_name

element_hop_safe : (i id : ℕ) → Safe (element_hop i (suc id))
element_hop_safe i id = chains is_safe (length_plan (suc id)) (λ total. element_if (nat_lt i total) i (suc id))
    (length_safe id) (λ total. inside (nat_lt i total))
  where
    inside : (is : Bool) → Safe (element_if is i (suc id))
    inside true = makes is_safe (one_of (element_of (suc id))) (elements_plan (suc id) i 1) (elements_safe id i 1)
    inside false = missing_safe bad_index

field_on_safe : (name : List ℕ) (id : ℕ) → Safe (by_id id (missing no_such_name) (field_hop name))
field_on_safe name id =
    by_id_safe id (missing no_such_name) (field_hop name) (missing_safe no_such_name) (field_hop_safe name)

name_on_safe : (name : List ℕ) (value : Value) → Safe (name_on name value)
name_on_safe name (values.Array o) =
    by_id_safe o.0 (missing no_such_name) (length_hop name) (missing_safe no_such_name) (length_hop_safe name)
name_on_safe name (values.Object o) = field_on_safe name o.0
name_on_safe name (values.Thread o) = field_on_safe name o.0
name_on_safe name (values.ThreadGroup o) = field_on_safe name o.0
name_on_safe name (values.ClassLoader o) = field_on_safe name o.0
name_on_safe name (values.ClassObject o) = field_on_safe name o.0
name_on_safe name _ = missing_safe no_such_name

index_on_safe : (i : ℕ) (value : Value) → Safe (index_on i value)
index_on_safe i (values.Array o) =
    by_id_safe o.0 (missing bad_index) (element_hop i) (missing_safe bad_index) (element_hop_safe i)
index_on_safe i _ = missing_safe bad_index

hop_safe : (hop : Hop) (value : Value) → Safe (hop_on hop value)
hop_safe (hops.Field name) value = name_on_safe name value
hop_safe (hops.Index i) value = index_on_safe i value

hops_safe : (list : List Hop) (v : Valued) → Safe (hops_on list v)
hops_safe [] v = gives_safe (Ok v)
hops_safe (hop ∷ others) v = chains is_safe (hop_on hop v.value) (on_value (hops_on others)) (hop_safe hop v.value)
    (on_safe (hops_on others) (hops_safe others))

named_head_safe : (f : FrameThing) (name : List ℕ) (found : Option Variable) → Safe (named_head f name found)
named_head_safe f name None = chains is_safe (this_plan f) (name_on name)
    (asks is_safe this_in (Want.Must (questions.ThisObject f.thread f.frame)) refl) (name_on_safe name)
named_head_safe f name (Some v) = makes is_safe (one_of (is_signature v.signature))
    (slots_plan f (record { slot = v.slot; tag = first_byte v.signature } ∷ []))
    (slots_safe f (record { slot = v.slot; tag = first_byte v.signature } ∷ []))

head_safe : (f : FrameThing) (head : Head) → Safe (head_in f head)
head_safe f heads.This = makes is_safe as_this (this_plan f)
    (asks is_safe this_in (Want.Must (questions.ThisObject f.thread f.frame)) refl)
head_safe f (heads.Name name) = chains is_safe (variables_plan f.at.class f.at.method)
    (λ variables. named_head f name (variable_named name f.at.index variables))
    (asks is_safe listed_variables (Want.Fact (questions.VariableTable f.at.class f.at.method)) refl)
    (λ variables. named_head_safe f name (variable_named name f.at.index variables))

shown_value_safe : (types : Bool) (sought : Sought) → Safe (shown_value types sought)
shown_value_safe types (Ok v) = makes is_safe value_found (seen_plan types v) (seen_safe types v)
shown_value_safe types (Err failure) = gives_safe (no_value failure)

pub value_safe : (types : Bool) (f : FrameThing) (e : Expr) → Safe (value_plan types f e)
value_safe types f e = chains is_safe (named_in f e) (shown_value types)
    (chains is_safe (head_in f e.head) (on_value (hops_on e.steps)) (head_safe f e.head)
    (on_safe (hops_on e.steps) (hops_safe e.steps))) (shown_value_safe types)

-- Writing -------------------------------------------------------------------------------------------------------------

child_written_safe : (w : Writing) (store_in : Place → Option Store) (child : Option Child)
    → Safe (child_written w store_in child)
child_written_safe w store_in None = gives_safe (no_value no_such_name)
child_written_safe w store_in (Some child) = makes is_safe
    (λ declared. write_with w (store_in child.place) declared (value_for declared w.text)) (declared_plan child.declared)
    (declared_safe child.declared)

sought_safe : (f : FrameThing) (this : Bool) → Safe (sought_in f this)
sought_safe f false = visible_safe f
sought_safe f true = locals_safe f

local_written_safe : (w : Writing) (f : FrameThing) (name : List ℕ) → Safe (local_written w f name)
local_written_safe w f name = chains is_safe (sought_in f (is_this name))
    (λ children. child_written w (slot_store f) (child_named name children)) (sought_safe f (is_this name))
    (λ children. child_written_safe w (slot_store f) (child_named name children))

field_written_safe : (w : Writing) (name : List ℕ) (id : ℕ) → Safe (field_written w name (suc id))
field_written_safe w name id = chains is_safe (object_fields (suc id))
    (λ children. child_written w (field_store (suc id)) (child_named name children)) (object_fields_safe id)
    (λ children. child_written_safe w (field_store (suc id)) (child_named name children))

element_by_safe : (w : Writing) (inside named : Bool) (id i : ℕ) → Safe (element_by w inside named (suc id) i)
element_by_safe w false named id i = gives_safe (no_value bad_index)
element_by_safe w true false id i = gives_safe (no_value no_such_name)
element_by_safe w true true id i = child_written_safe w (element_store (suc id)) (Some (of_index (suc id) i))

index_written_safe : (w : Writing) (name : List ℕ) (is : Bool) (id : ℕ) → Safe (index_written w name is (suc id))
index_written_safe w name false id = gives_safe (no_value no_such_name)
index_written_safe w name true id = let i = digits_value 10 (digits_of name) in
    chains is_safe (length_plan (suc id))
    (λ total. element_by w (nat_lt i total) (bytes_eq name (index_name i)) (suc id) i) (length_safe id)
    (λ total. element_by_safe w (nat_lt i total) (bytes_eq name (index_name i)) id i)

pub write_safe : (w : Writing) (thing : Thing) (name : List ℕ) → Safe (write_by w thing name)
write_safe w (things.Frame f) name = gives_safe (no_value no_such_name)
write_safe w (things.Locals f) name = local_written_safe w f name
write_safe w (things.Object o) name = by_id_safe o.0 (gives (no_value no_such_name)) (field_written w name)
    (gives_safe (no_value no_such_name)) (field_written_safe w name)
write_safe w (things.Array o) name =
    by_id_safe o.0 (gives (no_value no_such_name)) (index_written w name (is_index_name name))
    (gives_safe (no_value no_such_name)) (index_written_safe w name (is_index_name name))

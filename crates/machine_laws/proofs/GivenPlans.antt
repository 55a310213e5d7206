-- What look-ups find by their plans: a `setVariable` what it writes, or why it writes nothing; and threads, or an
-- exception, where these are looked up.
use Rattle.std.proofs.Common.{◌≡◌, ℕ, zero, suc, Bool, true, false, List, Option, Some, None, refl, subst}
use Rattle.std.specs.Prelude.{Result as Read, Ok, Err, bytes_eq, codes, nat_lt}
use Rattle.std.specs.Str.Parse.{digits_value}
use Rattle.dap_messages.specs.Telling.{no_such_name}
use Rattle.jdwp_commands.specs.declared.question.Question.TheVariants as questions
use Rattle.jdwp_values.specs.declared.value.Value.{Value}
use Rattle.machine_model.specs.Children.{Child, Place, index_name, object_fields, of_index}
use Rattle.machine_model.specs.Exceptions.{mode_of}
use Rattle.machine_model.specs.Lookups.{found_for, name_plan, names_plan, plan, sight_of, threads_in}
use Rattle.machine_model.specs.Outcomes.{result_of}
use Rattle.machine_model.specs.Plans.{Need, Plan, Refusal, Result, Sight, after, asking, beside, chained, each, fails}
use Rattle.machine_model.specs.Plans.{found_from, gave, gives, has, heard_of, joined, lacks, made_with, need, pairs}
use Rattle.machine_model.specs.Plans.{refused, tries, try_hear, wants}
use Rattle.machine_model.specs.State.{Hand, State}
use Rattle.machine_model.specs.Values.{by_id, declared_plan, length_plan, type_plan}
use Rattle.machine_model.specs.Writing.{Writing, child_named, child_written, digits_of, element_by, element_store}
use Rattle.machine_model.specs.Writing.{field_store, field_written, index_written, is_index_name, object_size}
use Rattle.machine_model.specs.Writing.{is_this, slot_store, sought_in, value_for, write_by, write_with}
use Rattle.machine_steps.specs.Names.{Answer, Failure, Finding, NamedThread, Store, ThreadId, Thrown, Want}
use Rattle.machine_steps.specs.Names.{all_threads, exception_found, exception_info, frames_found, no_value}
use Rattle.machine_steps.specs.Names.{threads_found, value_found, variable_write, variables_found, write_found}
use Rattle.stop_refs.specs.declared.thing.Thing.{Thing}
use Rattle.stop_refs.specs.declared.thing.Thing.TheVariants as things
use Rattle.value_views.specs.Names.{class_name}

-- Plans ---------------------------------------------------------------------------------------------------------------

-- all that the plan may give passes a test
unfoldable AllGives : {A : Type 0} → (A → Bool) → Plan A → Type 0
AllGives test (gives a) = test a ≡ true
AllGives test (wants want rest) = (heard : Option Answer) → AllGives test (rest heard)
AllGives test (tries question rest) = (heard : Read Answer Refusal) → AllGives test (rest heard)
AllGives test (pairs p q rest) = (two : _) → AllGives test (rest two)

chains : {A B : Type 0} (test : B → Bool) (p : Plan A) (f : A → Plan B) → ((a : A) → AllGives test (f a))
    → AllGives test (chained p f)
unfolding AllGives chained
chains test (gives a) f k = k a
chains test (wants want rest) f k = λ heard. chains test (rest heard) f k
chains test (tries question rest) f k = λ heard. chains test (rest heard) f k
chains test (pairs p q rest) f k = λ two. chains test (rest two) f k

makes : {A B : Type 0} (test : B → Bool) (f : A → B) (p : Plan A) → ((a : A) → test (f a) ≡ true)
    → AllGives test (made_with f p)
unfolding AllGives made_with
makes test f (gives a) k = k a
makes test f (wants want rest) k = λ heard. makes test f (rest heard) k
makes test f (tries question rest) k = λ heard. makes test f (rest heard) k
makes test f (pairs p q rest) k = λ two. makes test f (rest two) k

-- a value passes it
abbrev need_passes : {A : Type 0} → (A → Bool) → Need A → Bool
need_passes test (has a) = test a
need_passes test (fails fault) = true
need_passes test (lacks want others) = true

after_passes : {A B : Type 0} (test : B → Bool) (n : Need A) (f : A → Need B)
    → ((a : A) → need_passes test (f a) ≡ true) → need_passes test (after n f) ≡ true
after_passes test (has a) f k = k a
after_passes test (fails fault) f k = refl
after_passes test (lacks want others) f k = refl

plan_gives : {A : Type 0} (test : A → Bool) (sight : Sight) (p : Plan A) → AllGives test p
    → need_passes test (need sight p) ≡ true
unfolding need AllGives
plan_gives test sight (gives a) h = h
plan_gives test sight (wants want rest) h = after_passes test (heard_of sight want) (λ heard. need sight (rest heard))
    (λ heard. plan_gives test sight (rest heard) (h heard))
plan_gives test sight (tries question rest) h =
    after_passes test (try_hear question (found_from 0 sight.asked question)) (λ heard. need sight (rest heard))
    (λ heard. plan_gives test sight (rest heard) (h heard))
plan_gives test sight (pairs p q rest) h =
    after_passes test (beside (need sight p) (need sight q)) (λ two. need sight (rest two))
    (λ two. plan_gives test sight (rest two) (h two))

-- what a look-up has found passes it
abbrev pub result_passes : (Finding → Bool) → Result Finding → Bool
result_passes test (gave finding) = test finding
result_passes test (refused code) = true

given : (test : Finding → Bool) (found : Need Finding) → need_passes test found ≡ true
    → result_passes test (result_of found) ≡ true
given test (has finding) is = is
given test (fails fault) is = refl
given test (lacks want others) is = refl

-- Writes --------------------------------------------------------------------------------------------------------------

-- what is to be written, or why nothing is
abbrev pub is_of_write : Finding → Bool
is_of_write (write_found write seen) = true
is_of_write (no_value failure) = true
is_of_write _ = false

with_value : (w : Writing) (store : Option Store) (declared : List ℕ) (value : Read Value Failure)
    → is_of_write (write_with w store declared value) ≡ true
with_value w None declared (Ok value) = refl
with_value w (Some store) declared (Ok value) = refl
with_value w None declared (Err failure) = refl
with_value w (Some store) declared (Err failure) = refl

of_child : (w : Writing) (store_in : Place → Option Store) (child : Option Child)
    → AllGives is_of_write (child_written w store_in child)
unfolding AllGives
of_child w store_in None = refl
of_child w store_in (Some child) = makes is_of_write
    (λ declared. write_with w (store_in child.place) declared (value_for declared w.text))
    (declared_plan child.declared)
    (λ declared. with_value w (store_in child.place) declared (value_for declared w.text))

of_element : (w : Writing) (within named : Bool) (array i : ℕ)
    → AllGives is_of_write (element_by w within named array i)
unfolding AllGives
of_element w false named array i = refl
of_element w true false array i = refl
of_element w true true array i = of_child w (element_store array) (Some (of_index array i))

at_index : (w : Writing) (name : List ℕ) (is : Bool) (array : ℕ) → AllGives is_of_write (index_written w name is array)
unfolding AllGives
at_index w name false array = refl
at_index w name true array =
    let i = digits_value 10 (digits_of name) in
    chains is_of_write (length_plan array)
    (λ total. element_by w (nat_lt i total) (bytes_eq name (index_name i)) array i)
    (λ total. of_element w (nat_lt i total) (bytes_eq name (index_name i)) array i)

of_thing : (w : Writing) (thing : Thing) (name : List ℕ) → AllGives is_of_write (write_by w thing name)
unfolding AllGives
of_thing w (things.Frame frame) name = refl
of_thing w (things.Locals frame) name = chains is_of_write (sought_in frame (is_this name))
    (λ children. child_written w (slot_store frame) (child_named name children))
    (λ children. of_child w (slot_store frame) (child_named name children))
of_thing w (things.Object object) name = by_object object.0
  where
    by_object : (id : ℕ) → AllGives is_of_write (by_id id (gives (no_value no_such_name)) (field_written w name))
    by_object zero = refl
    by_object (suc id) = chains is_of_write (object_fields (suc id))
        (λ children. child_written w (field_store (suc id)) (child_named name children))
        (λ children. of_child w (field_store (suc id)) (child_named name children))
of_thing w (things.Array array) name = by_array array.0
  where
    by_array : (id : ℕ) → AllGives is_of_write
        (by_id id (gives (no_value no_such_name)) (index_written w name (is_index_name name)))
    by_array zero = refl
    by_array (suc id) = at_index w name (is_index_name name) (suc id)

-- the look-up of a `setVariable` finds nothing else
pub finds_write : (thing : Thing) (name text : List ℕ) (state : State) (hand : Hand) (found : Need Finding)
    → found_for (variable_write thing name text) state hand ≡ found
    → result_passes is_of_write (result_of found) ≡ true
finds_write thing name text state hand found is =
    let w : Writing = record { types = state.options.shows_types; size = object_size state.sizes; text = text } in
    given is_of_write found (subst (λ (found : Need Finding). need_passes is_of_write found ≡ true) is
    (plan_gives is_of_write (sight_of state hand) (write_by w thing name) (of_thing w thing name)))

-- Numbers -------------------------------------------------------------------------------------------------------------

-- what is shown without numbers of frames or containers
abbrev pub is_unnumbered : Finding → Bool
is_unnumbered (frames_found total frames) = false
is_unnumbered (variables_found shown) = false
is_unnumbered (value_found seen) = false
is_unnumbered _ = true

pub finds_threads : (state : State) (hand : Hand) (found : Need Finding) → found_for all_threads state hand ≡ found
    → result_passes is_unnumbered (result_of found) ≡ true
finds_threads state hand found is =
    given is_unnumbered found (subst (λ (found : Need Finding). need_passes is_unnumbered found ≡ true) is
    (plan_gives is_unnumbered (sight_of state hand) (plan all_threads state)
    (chains is_unnumbered (asking threads_in (Want.Must questions.AllThreads)) names_plan named)))
  where
    named : (threads : List ThreadId) → AllGives is_unnumbered (names_plan threads)
    named threads = makes is_unnumbered (λ (named : List (List NamedThread)). threads_found (joined named))
        (each name_plan threads) (λ named. refl)

pub finds_exception : (thrown : Thrown) (state : State) (hand : Hand) (found : Need Finding)
    → found_for (exception_info thrown) state hand ≡ found
    → result_passes is_unnumbered (result_of found) ≡ true
finds_exception thrown state hand found is =
    given is_unnumbered found (subst (λ (found : Need Finding). need_passes is_unnumbered found ≡ true) is
    (plan_gives is_unnumbered (sight_of state hand) (plan (exception_info thrown) state)
    (makes is_unnumbered (λ id. exception_found id (mode_of thrown.caught))
    (by_id thrown.object.0 (gives (codes "null")) (λ id. made_with class_name (type_plan id))) (λ id. refl))))

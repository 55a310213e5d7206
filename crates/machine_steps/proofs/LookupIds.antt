-- What a look-up lacks is asked with ids that its sight has: by row what its plan says.
use Rattle.std.proofs.Common.{◌≡◌, ℕ, suc, Bool, true, false, cond, List, [], ◌∷◌, Option, Some, None, refl, sym, subst}
use Rattle.std.proofs.Common.{zero, pos, ◌++◌, ◌==◌, ◌≤◌, arith, drop, filter, filter_map, length, map, nat_lt, take}
use Rattle.std.proofs.Common.{zip}
use Rattle.std.specs.List.{cons_option, list_any, AllByRecursion as All, flat_map}
use Rattle.jdwp_values.specs.Lossy.{lossy}
use Rattle.class_tables.specs.Facts.{Known}
use Rattle.class_tables.specs.Lookups.{found_in}
use Rattle.class_tables.specs.Tables.{keys}
use Rattle.jdwp_commands.specs.declared.answer.Answer.TheVariants as answers
use Rattle.jdwp_commands.specs.declared.question.Question.TheVariants as questions
use Rattle.jdwp_values.specs.declared.class.Field.{Field}
use Rattle.jdwp_values.specs.declared.class.Method.{Method}
use Rattle.jdwp_values.specs.declared.id.ClassId.{ClassId}
use Rattle.jdwp_commands.specs.declared.listed.Frame.{Frame}
use Rattle.machine_model.specs.Facts.{fact_known, lines_in, methods_in, signature_in, source_in, above_in, fields_in}
use Rattle.machine_model.specs.Frames.{count_from, count_in, counted_plan, frame_plan, frame_shown, frames_from}
use Rattle.machine_model.specs.Frames.{frames_in, frames_plan, lines_plan as lines_of, methods_plan as methods_of}
use Rattle.machine_model.specs.Frames.{shown_plan, signature_plan as signature_of, source_plan as source_of}
use Rattle.machine_model.specs.Ids.{Id, class, ids_answered, ids_replied, method, object, thread_of, field, frame}
use Rattle.machine_model.specs.Ids.{id_of_object, ids_of_value}
use Rattle.machine_model.specs.Lookups.{name_plan, named_by, names_plan, plan, threads_in, threads_plan}
use Rattle.machine_model.specs.Plans.{Found, Plan, Sight, answer_in, asking, beside, chained, both, each, fact_heard}
use Rattle.machine_model.specs.Plans.{found_from, gives, heard_of, made_with, may_hear, must_hear, need, pairs, joined}
use Rattle.machine_model.specs.Plans.{Refusal, question_of, tried_of, tries, try_hear}
use Rattle.machine_model.specs.State.{State}
use Rattle.machine_model.proofs.IdRows.{all_back, all_front, all_joined, is_short, none_in}
use Rattle.machine_steps.specs.Names.{Answer, Lookup, NamedThread, Question, Replied, ThreadId, Want, all_threads}
use Rattle.machine_steps.specs.Names.{an_answer, an_error, classes_found, class_facts, frames_found, thread_frames}
use Rattle.machine_steps.specs.Names.{exception_found, exception_info, exception_text, text_found, Failure, Seen}
use Rattle.machine_steps.specs.Names.{container_children, expression_value, no_value, value_found, variable_write}
use Rattle.machine_steps.specs.Names.{Store, Thrown, breakpoint_hits, hits_found, variables_found}
use Rattle.class_tables.specs.declared.loaded.Loaded.{Loaded}
use Rattle.machine_model.specs.Classes.{bound_plan, class_plan, classes_plan, counts, early_plan, is_keyed, keyed_plan}
use Rattle.machine_model.specs.Classes.{known_plan, lines_plan, listing_plan, methods_plan, package_plan, prepared_plan}
use Rattle.machine_model.specs.Classes.{source_plan, watched_plan}
use Rattle.machine_model.specs.Exceptions.{exception_plan, heard_plan, mode_of, name_by, named_plan, text_by}
use Rattle.machine_model.specs.Exceptions.{text_plan as text_of_exception}
use Rattle.value_views.specs.Names.{class_name}
use Rattle.class_tables.specs.Signatures.{package_in}
use Rattle.wish_sets.specs.Places.{key_by}
use Rattle.wish_sets.specs.Wanted.{Wanted}
use Rattle.wish_sets.specs.Wished.{is_named, is_watched}
use Rattle.std.specs.Prelude.{codes, ◌||◌, Result, Result as Tried, Ok, Err, bytes_eq, find}
use Rattle.machine_model.proofs.PlanIds.{Any, AreKnown, IsAsked, IsFound, IsGood, IsHeard, IsHeardOf, IsWanted}
use Rattle.machine_model.proofs.PlanIds.{NeedStands, OfClass, OfFrameThing, OfLookup, OfMethod, OfNamed, OfObject}
use Rattle.machine_model.proofs.PlanIds.{OfShownFrame, OfShownVariable, OfThing, OfThread, OnSome, after_stands}
use Rattle.machine_model.proofs.PlanIds.{beside_stands, fact_good, fact_some, found_some, need_chained, need_made}
use Rattle.machine_model.proofs.PlanIds.{reply_heard}
use Rattle.dap_messages.specs.declared.requests.Filter.{Filter}
use Rattle.dap_messages.specs.declared.requests.Filter.TheVariants.{Both, Indexed, Named}
use Rattle.jdwp_commands.specs.declared.listed.Slot.{Slot}
use Rattle.jdwp_values.specs.declared.class.Variable.{Variable}
use Rattle.jdwp_values.specs.declared.id.FieldId.{FieldId}
use Rattle.jdwp_values.specs.declared.value.Value.{Value}
use Rattle.jdwp_values.specs.declared.value.Value.TheVariants as values
use Rattle.machine_model.specs.Children.{Child, FieldOf, Place, above_plan, at_index, by_slot, chain, chain_fields}
use Rattle.machine_model.specs.Children.{class_fields, elements_of, field_plan, fields_named, fields_plan, in_field}
use Rattle.machine_model.specs.Children.{in_slot, is_known, is_visible, listed_variables, locals_plan}
use Rattle.machine_model.specs.Children.{name_plan as field_name_plan, names_met, object_fields, object_named}
use Rattle.machine_model.specs.Children.{of_classes, of_field, of_fields, of_index, of_this, of_variable, own_fields}
use Rattle.machine_model.specs.Children.{reach, this_in, this_plan, variables_plan, visible_at, visible_plan}
use Rattle.machine_model.specs.Children.{with_class, with_name, with_this, index_name, first_byte}
use Rattle.machine_model.specs.Writing.{Writing, child_named, child_written, digits_of, element_by, element_store}
use Rattle.machine_model.specs.Writing.{field_store, field_written, index_written, is_index_name, local_written}
use Rattle.machine_model.specs.Writing.{is_this, slot_store, sought_in, value_for, write_by, write_with}
use Rattle.machine_model.proofs.WriteIds.{OfStore, OfValueRead, value_read}
use Rattle.std.specs.Str.Parse.{digits_value}
use Rattle.dap_messages.specs.Telling.{bad_index, no_such_name}
use Rattle.field_exprs.specs.declared.expr.Expr.{Expr}
use Rattle.field_exprs.specs.declared.expr.Head.{Head}
use Rattle.field_exprs.specs.declared.expr.Head.TheVariants as heads
use Rattle.field_exprs.specs.declared.expr.Hop.{Hop}
use Rattle.field_exprs.specs.declared.expr.Hop.TheVariants as hops
use Rattle.machine_model.specs.Expressions.{Sought, as_length, as_this, class_field, element_hop, element_if}
use Rattle.machine_model.specs.Expressions.{field_from, field_hop, field_named, field_value, found_or, head_in, hop_on}
use Rattle.machine_model.specs.Expressions.{hops_on, index_on, length_hop, length_if, missing, name_on, named_head}
use Rattle.machine_model.specs.Expressions.{named_in, on_value, one_of, shown_value, this_by, value_plan}
use Rattle.machine_model.specs.Expressions.{variable_named}
use Rattle.stop_refs.specs.declared.thing.FrameThing.{FrameThing}
use Rattle.stop_refs.specs.declared.thing.Thing.{Thing}
use Rattle.stop_refs.specs.declared.thing.Thing.TheVariants as things
use Rattle.machine_model.specs.Values.{Declared, Valued, array_plan, array_seen, by_id, class_in}
use Rattle.machine_model.specs.Values.{class_plan as class_of, declared_plan, element_of, element_plan, is_signature}
use Rattle.machine_model.specs.Values.{length_in, length_plan, null_plan, object_plan, object_seen, seen_by, seen_plan}
use Rattle.machine_model.specs.Values.{string_plan, string_seen, text_in, text_plan, type_if, type_plan, typed}
use Rattle.machine_model.specs.Variables.{child_plan, children_plan, elements_page, elements_plan, elements_valued}
use Rattle.machine_model.specs.Variables.{field_at, field_values, fields_of, fields_page, fields_valued, known_at}
use Rattle.machine_model.specs.Variables.{locals_page, locals_valued, page, page_plan, shown_as}
use Rattle.machine_model.specs.Variables.{shown_plan as values_shown, slot_at, slots_of, slots_plan, values_in}
use Rattle.machine_model.specs.Variables.{values_known, with_known}

abbrev OfFrame : (Id → Type 0) → ThreadId → Frame → Type 0
OfFrame P thread one = P (frame thread.0 one.id.0) × P (class one.at.class.0) × P (method one.at.method.0)

module _ (P : Id → Type 0) (null : P (class 0)) (sight : Sight) (known : Known) (facts : AreKnown P known)
    (asked : All (IsAsked P true) sight.asked) (sees : sight.classes ≡ found_in known) where
  -- the plan lacks what may be asked, and its value is good
  abbrev Row : {A : Type 0} → (A → Type 0) → Plan A → Type 0
  Row Good p = NeedStands P Good (need sight p)

  hears : (want : Want) → IsWanted P true want → NeedStands P (IsHeardOf P (question_of want)) (heard_of sight want)
  hears (Want.Must question) q =
      by_found (found_from 0 sight.asked question) (found_some P true 0 sight.asked question asked)
    where
      by_reply : (place : ℕ) (replied : Replied) → All P (ids_replied (thread_of question) replied)
          → NeedStands P (IsHeardOf P question) (must_hear question (Some (record { place = place; replied = replied })))
      by_reply place (an_answer answer) k = k
      by_reply place (an_error code) k = tt

      by_found : (found : Option Found) → OnSome (IsFound P question) found
          → NeedStands P (IsHeardOf P question) (must_hear question found)
      by_found None k = (q, tt)
      by_found (Some found) k = by_reply found.place found.replied k
  hears (Want.May question) q =
      by_found (found_from 0 sight.asked question) (found_some P true 0 sight.asked question asked)
    where
      by_found : (found : Option Found) → OnSome (IsFound P question) found
          → NeedStands P (IsHeardOf P question) (may_hear question found)
      by_found None k = (q, tt)
      by_found (Some found) k = reply_heard P question found.replied k
  hears (Want.Fact question) q =
      by_fact (fact_known sight.classes question) (found_from 0 sight.asked question)
      (subst (λ classes. OnSome (IsHeardOf P question) (fact_known classes question)) (sym sees)
      (fact_some P known question facts)) (found_some P true 0 sight.asked question asked)
    where
      by_fact : (fact : Option (Option Answer)) (found : Option Found) → OnSome (IsHeardOf P question) fact
          → OnSome (IsFound P question) found → NeedStands P (IsHeardOf P question) (fact_heard question fact found)
      by_fact None None k l = (q, tt)
      by_fact None (Some found) k l =
          fact_good P null question (answer_in found.replied) (reply_heard P question found.replied l)
      by_fact (Some heard) found k l = k

  chains : {A B : Type 0} (Good : A → Type 0) (Best : B → Type 0) (p : Plan A) (f : A → Plan B) → Row Good p
      → ((a : A) → Good a → Row Best (f a)) → Row Best (chained p f)
  chains Good Best p f k l =
      subst (NeedStands P Best) (sym (need_chained sight p f)) (after_stands P Good Best (need sight p) _ k l)

  makes : {A B : Type 0} (Good : A → Type 0) (Best : B → Type 0) (f : A → B) (p : Plan A) → Row Good p
      → ((a : A) → Good a → Best (f a)) → Row Best (made_with f p)
  makes Good Best f p k l =
      subst (NeedStands P Best) (sym (need_made sight f p)) (after_stands P Good Best (need sight p) _ k l)

  joins : {A B C : Type 0} (Good : A → Type 0) (Best : B → Type 0) (Last : C → Type 0) (p : Plan A) (q : Plan B)
      (rest : A × B → Plan C) → Row Good p → Row Best q
      → ((two : A × B) → Good two.0 × Best two.1 → Row Last (rest two)) → Row Last (pairs p q rest)
  unfolding need
  joins Good Best Last p q rest k l m = after_stands P (λ two. Good two.0 × Best two.1) Last
      (beside (need sight p) (need sight q)) _ (beside_stands P Good Best (need sight p) (need sight q) k l) m

  -- what is heard of a question that is tried
  abbrev IsTriedOf : Question → Tried Answer Refusal → Type 0
  IsTriedOf question (Ok answer) = All P (ids_answered (thread_of question) answer)
  IsTriedOf question (Err why) = Unit {0}

  tried : {A : Type 0} (Good : A → Type 0) (question : Question) (rest : Tried Answer Refusal → Plan A)
      → IsWanted P true (Want.May question)
      → ((heard : Tried Answer Refusal) → IsTriedOf question heard → Row Good (rest heard))
      → Row Good (tries question rest)
  unfolding need
  tried Good question rest q k = after_stands P (IsTriedOf question) Good
      (try_hear question (found_from 0 sight.asked question)) _
      (by_found (found_from 0 sight.asked question) (found_some P true 0 sight.asked question asked)) k
    where
      by_reply : (replied : Replied) → All P (ids_replied (thread_of question) replied)
          → IsTriedOf question (tried_of question replied)
      by_reply (an_answer answer) k = k
      by_reply (an_error code) k = tt

      by_found : (found : Option Found) → OnSome (IsFound P question) found
          → NeedStands P (IsTriedOf question) (try_hear question found)
      by_found None k = (q, tt)
      by_found (Some found) k = by_reply found.replied k

  every : {A B : Type 0} (Good : A → Type 0) (Best : B → Type 0) (f : A → Plan B) → ((a : A) → Good a → Row Best (f a))
      → (list : List A) → All Good list → Row (All Best) (each f list)
  unfolding need each
  every Good Best f k [] h = tt
  every Good Best f k (a ∷ others) h = joins Best (All Best) (All Best) (f a) (each f others)
      (λ two. gives (two.0 ∷ two.1)) (k a h.0) (every Good Best f k others h.1) (λ two good. good)

  asks : {A : Type 0} (Good : A → Type 0) (read : Option Answer → A) (want : Want) → IsWanted P true want
      → ((heard : Option Answer) → IsHeardOf P (question_of want) heard → Good (read heard))
      → Row Good (asking read want)
  unfolding need
  asks Good read want q k =
      after_stands P (IsHeardOf P (question_of want)) Good (heard_of sight want) _ (hears want q) k

  -- the names that are asked are those of threads in the answer to AllThreads
  threads_heard : (heard : Option Answer) → IsHeard P heard → All (OfThread P) (threads_in heard)
  threads_heard (Some (answers.AllThreads (thread ∷ threads))) k =
      (k.0, threads_heard (Some (answers.AllThreads threads)) k.1)
  threads_heard _ k = tt

  name_heard : (thread : ThreadId) → OfThread P thread → (heard : Option Answer) → All (OfNamed P)
      (named_by thread heard)
  name_heard thread k (Some (answers.ThreadName name)) = (k, tt)
  name_heard thread k _ = tt

  named_joined : (lists : List (List NamedThread)) → All (All (OfNamed P)) lists → All (OfNamed P) (joined lists)
  named_joined [] h = tt
  named_joined (named ∷ lists) h = all_joined (OfNamed P) named (joined lists) h.0 (named_joined lists h.1)

  threads_row : Row (IsGood P) threads_plan
  threads_row = chains (All (OfThread P)) (IsGood P) (asking threads_in (Want.Must questions.AllThreads)) names_plan
      (asks _ threads_in (Want.Must questions.AllThreads)
      (record { ids = tt; plain = refl; first = refl }) threads_heard)
      (λ threads h. makes (All (All (OfNamed P))) (IsGood P) _ (each name_plan threads)
      (every (OfThread P) (All (OfNamed P)) name_plan (λ thread k. asks (All (OfNamed P)) (named_by thread)
      (Want.May (questions.ThreadName thread))
      (record { ids = (k, tt); plain = refl; first = refl }) (λ heard any. name_heard thread k heard)) threads h)
      named_joined)

  -- a class is asked by its id and those of its methods
  methods_heard : (heard : Option Answer) → IsHeard P heard → All (OfMethod P) (methods_in heard)
  methods_heard (Some (answers.Methods (one ∷ others))) k = (k.0, methods_heard (Some (answers.Methods others)) k.1)
  methods_heard _ k = tt

  kept_all : {A : Type 0} (Good : A → Type 0) (test : A → Bool) (list : List A) → All Good list
      → All Good (filter test list)
  kept_all Good test [] h = tt
  kept_all {A} Good test (a ∷ list) h = by_test (test a) (kept_all Good test list h.1)
    where
      by_test : (is : Bool) → All Good (filter test list) → All Good (cond is (a ∷ filter test list) (filter test list))
      by_test true rest = (h.0, rest)
      by_test false rest = rest

  lines_row : (c : ClassId) → OfClass P c → (one : Method) → OfMethod P one → Row Any (lines_plan c one)
  lines_row c k one h = asks Any (λ heard. heard) (Want.Fact (questions.LineTable c one.id))
      (record { ids = (k, (h, tt)); plain = refl; first = refl }) (λ heard any. tt)

  bound_row : (bound keyed : Bool) (wanted : Wanted) (c : ClassId) (signature : List ℕ) → OfClass P c
      → Row (All (OfClass P)) (bound_plan bound keyed wanted c signature)
  unfolding need
  bound_row false keyed wanted c signature k = tt
  bound_row true keyed wanted c signature k =
      chains (All (OfMethod P)) (All (OfClass P)) (asking methods_in (Want.Fact (questions.Methods c)))
      (methods_plan keyed wanted c signature)
      (asks (All (OfMethod P)) methods_in (Want.Fact (questions.Methods c))
      (record { ids = (k, tt); plain = refl; first = refl }) methods_heard)
      (λ methods h. let some = filter (counts keyed wanted signature) methods in
      makes (All Any) (All (OfClass P)) (λ heard. c ∷ []) (each (lines_plan c) some)
      (every (OfMethod P) Any (lines_plan c) (lines_row c k) some
      (kept_all (OfMethod P) (counts keyed wanted signature) methods h)) (λ heard any. (k, tt)))

  early_row : (named : Bool) (c : ClassId) → OfClass P c → Row Any (early_plan named c)
  unfolding need
  early_row false c k = tt
  early_row true c k = asks Any methods_in (Want.Fact (questions.Methods c))
      (record { ids = (k, tt); plain = refl; first = refl }) (λ heard any. tt)

  source_row : (wanted : Wanted) (c : ClassId) (signature : List ℕ) → OfClass P c
      → Row (All (OfClass P)) (source_plan wanted c signature)
  source_row wanted c signature k =
      joins Any Any (All (OfClass P)) (asking source_in (Want.Fact (questions.SourceFile c)))
      (early_plan (is_named wanted signature None) c)
      (λ two. keyed_plan (is_keyed wanted (key_by signature two.0)) wanted c signature)
      (asks Any source_in (Want.Fact (questions.SourceFile c))
      (record { ids = (k, tt); plain = refl; first = refl }) (λ heard any. tt))
      (early_row (is_named wanted signature None) c k)
      (λ two any. let keyed = is_keyed wanted (key_by signature two.0) in
      bound_row (keyed || is_named wanted signature None) keyed wanted c signature k)

  class_row : (wanted : Wanted) (c : ClassId) (loaded : Option Loaded) → OfClass P c
      → Row (All (OfClass P)) (class_plan wanted c loaded)
  unfolding need
  class_row wanted c None k = tt
  class_row wanted c (Some loaded) k = by_prepared loaded.prepared
    where
      by_watched : (watched : Bool) → Row (All (OfClass P)) (watched_plan watched wanted c loaded.signature)
      by_watched false = tt
      by_watched true = source_row wanted c loaded.signature k

      by_package : (path : Option (List ℕ)) → Row (All (OfClass P)) (package_plan wanted c loaded.signature path)
      by_package None = tt
      by_package (Some path) = by_watched (is_watched wanted path)

      by_prepared : (prepared : Bool) → Row (All (OfClass P)) (prepared_plan prepared wanted c loaded.signature)
      by_prepared false = tt
      by_prepared true = by_package (package_in loaded.signature)

  classes_joined : (lists : List (List ClassId)) → All (All (OfClass P)) lists → All (OfClass P) (joined lists)
  classes_joined [] h = tt
  classes_joined (classes ∷ lists) h = all_joined (OfClass P) classes (joined lists) h.0 (classes_joined lists h.1)

  keys_known : (entries : List (ClassId × Loaded)) → All (λ (entry : ClassId × Loaded). P (class entry.0.0)) entries
      → All (OfClass P) (keys entries)
  keys_known [] h = tt
  keys_known (entry ∷ entries) h = (h.0, keys_known entries h.1)

  known_row : (wanted : Wanted) → Row (All (OfClass P)) (known_plan wanted (found_in known))
  known_row wanted = makes (All (All (OfClass P))) (All (OfClass P)) joined
      (each (λ c. class_plan wanted c ((found_in known).loaded c)) (keys known.loaded))
      (every (OfClass P) (All (OfClass P)) (λ c. class_plan wanted c ((found_in known).loaded c))
      (λ c k. class_row wanted c ((found_in known).loaded c) k) (keys known.loaded)
      (keys_known known.loaded facts.loaded))
      classes_joined

  classes_row : (unlisted : Bool) (wanted : Wanted)
      → Row (All (OfClass P)) (classes_plan unlisted wanted (found_in known))
  unfolding need
  classes_row true wanted = joins (All (OfClass P)) (All (OfClass P)) (All (OfClass P)) listing_plan
      (known_plan wanted (found_in known)) (λ two. gives two.0)
      (asks (All (OfClass P)) (λ heard. []) (Want.Must questions.AllClasses)
      (record { ids = tt; plain = refl; first = refl }) (λ heard any. tt))
      (known_row wanted) (λ two good. good.0)
  classes_row false wanted = known_row wanted

  -- frames are asked of a thread that was read, and their classes and methods are those in the answer
  abbrev HasFrames : ThreadId → Option Answer → Type 0
  HasFrames thread heard = OnSome (λ answer. All P (ids_answered thread.0 answer)) heard

  frames_heard : (thread : ThreadId) (heard : Option Answer) → HasFrames thread heard
      → All (OfFrame P thread) (frames_in heard)
  frames_heard thread (Some (answers.Frames (one ∷ frames))) k =
      ((k.0, k.1.0, k.1.1.0), frames_heard thread (Some (answers.Frames frames)) k.1.1.1)
  frames_heard thread _ k = tt

  frame_row : (state : State) (thread : ThreadId) → OfThread P thread → (one : Frame) → OfFrame P thread one
      → Row (OfShownFrame P) (frame_plan state thread one)
  unfolding need
  frame_row state thread t one k = makes Any (OfShownFrame P) (frame_shown state thread one)
      (both (both (signature_of one.at.class) (source_of one.at.class))
      (both (methods_of one.at.class) (lines_of one.at.class one.at.method)))
      (joins Any Any Any (both (signature_of one.at.class) (source_of one.at.class))
      (both (methods_of one.at.class) (lines_of one.at.class one.at.method)) gives
      (joins Any Any Any (signature_of one.at.class) (source_of one.at.class) gives
      (asks Any signature_in (Want.Fact (questions.Signature one.at.class))
      (record { ids = (k.1, tt); plain = refl; first = refl }) (λ heard any. tt))
      (asks Any source_in (Want.Fact (questions.SourceFile one.at.class))
      (record { ids = (k.1, tt); plain = refl; first = refl }) (λ heard any. tt)) (λ two good. tt))
      (joins Any Any Any (methods_of one.at.class) (lines_of one.at.class one.at.method) gives
      (asks Any methods_in (Want.Fact (questions.Methods one.at.class))
      (record { ids = (k.1, tt); plain = refl; first = refl }) (λ heard any. tt))
      (asks Any lines_in (Want.Fact (questions.LineTable one.at.class one.at.method))
      (record { ids = (k.1, (k.2, tt)); plain = refl; first = refl }) (λ heard any. tt)) (λ two good. tt))
      (λ two good. tt)) (λ facts any. (t, k.0, k.1, k.2))

  from_row : (thread : ThreadId) → OfThread P thread → (start count : ℕ)
      → Row (All (OfFrame P thread)) (frames_from thread start count)
  unfolding need
  from_row thread k start zero = tt
  from_row thread k start (suc count) = asks (All (OfFrame P thread)) frames_in
      (Want.Must (questions.Frames thread (pos start) (pos (suc count))))
      (record { ids = (k, tt); plain = refl; first = refl }) (frames_heard thread)

  frames_row : (state : State) (thread : ThreadId) → OfThread P thread → (start levels : ℕ)
      → Row (IsGood P) (frames_plan state thread start levels)
  frames_row state thread k start levels = chains Any (IsGood P)
      (asking count_in (Want.Must (questions.FrameCount thread))) (counted_plan state thread start levels)
      (asks Any count_in (Want.Must (questions.FrameCount thread))
      (record { ids = (k, tt); plain = refl; first = refl }) (λ heard any. tt))
      (λ total any. chains (All (OfFrame P thread)) (IsGood P) (frames_from thread start (count_from total start levels))
      (shown_plan state thread total) (from_row thread k start (count_from total start levels))
      (λ frames h. makes (All (OfShownFrame P)) (IsGood P) (frames_found total) (each (frame_plan state thread) frames)
      (every (OfFrame P thread) (OfShownFrame P) (frame_plan state thread) (frame_row state thread k) frames h)
      (λ shown good. good)))

  -- values: an object is asked by an id of its kind, its class by that in the answer
  abbrev OfValue : Value → Type 0
  OfValue value = All P (ids_of_value value)

  abbrev OfDeclared : Declared → Type 0
  OfDeclared (is_signature signature) = Unit {0}
  OfDeclared (element_of id) = P (object id)

  class_heard : (heard : Option Answer) → IsHeard P heard → OfClass P (class_in heard)
  class_heard (Some (answers.ObjectType tag c)) k = k.0
  class_heard _ k = null

  class_row_of : (id : ℕ) → P (object id) → Row (OfClass P) (class_of id)
  class_row_of id k = asks (OfClass P) class_in (Want.Must (questions.ObjectType (record { 0 = id })))
      (record { ids = (k, tt); plain = refl; first = refl }) class_heard

  signature_row : (c : ClassId) → OfClass P c → Row Any (signature_of c)
  signature_row c k = asks Any signature_in (Want.Fact (questions.Signature c))
      (record { ids = (k, tt); plain = refl; first = refl }) (λ heard any. tt)

  type_row : (id : ℕ) → P (object id) → Row Any (type_plan id)
  type_row id k = chains (OfClass P) Any (class_of id) signature_of (class_row_of id k) signature_row

  length_row : (id : ℕ) → P (object id) → Row Any (length_plan id)
  length_row id k = asks Any length_in (Want.Must (questions.ArrayLength (record { 0 = id })))
      (record { ids = (k, tt); plain = refl; first = refl }) (λ heard any. tt)

  text_row : (id : ℕ) → P (object id) → Row Any (text_plan id)
  text_row id k = asks Any text_in (Want.Must (questions.StringValue (record { 0 = id })))
      (record { ids = (k, tt); plain = refl; first = refl }) (λ heard any. tt)

  by_id_row : {A : Type 0} (Good : A → Type 0) (id : ℕ) (none : Plan A) (some : ℕ → Plan A) → Row Good none
      → Row Good (some id) → Row Good (by_id id none some)
  by_id_row Good zero none some h k = h
  by_id_row Good (suc id) none some h k = k

  object_row_of : {A : Type 0} (Good : A → Type 0) (id : ℕ) (none : Plan A) (some : ℕ → Plan A) → All P (id_of_object id)
      → Row Good none → ((id : ℕ) → P (object id) → Row Good (some id)) → Row Good (by_id id none some)
  object_row_of Good zero none some k h rest = h
  object_row_of Good (suc id) none some k h rest = rest (suc id) k.0

  gives_row : {A : Type 0} (Good : A → Type 0) (a : A) → Good a → Row Good (gives a)
  unfolding need
  gives_row Good a k = k

  declared_row : (declared : Declared) → OfDeclared declared → Row Any (declared_plan declared)
  declared_row (is_signature signature) k = gives_row Any signature tt
  declared_row (element_of id) k = by_id_row Any id (gives []) element_plan (gives_row Any [] tt)
      (makes Any Any _ (type_plan id) (type_row id k) (λ signature any. tt))

  typed_row : (types : Bool) (p : Plan (List ℕ)) → Row Any p → Row Any (typed types p)
  typed_row false p k = gives_row Any None tt
  typed_row true p k = makes Any Any (type_if true) p k (λ signature any. tt)

  abbrev OfSeen : Seen → Type 0
  OfSeen seen = OnSome (OfThing P) seen.thing

  null_row : (types : Bool) (v : Valued) → OfDeclared v.declared → Row OfSeen (null_plan types v)
  null_row types v k = makes Any OfSeen _ (typed types (declared_plan v.declared))
      (typed_row types (declared_plan v.declared) (declared_row v.declared k)) (λ kind any. tt)

  string_row : (types : Bool) (value : Value) (id : ℕ) → P (object id) → Row OfSeen (string_plan types value id)
  string_row types value id k = makes Any OfSeen (string_seen value) (both (text_plan id) (typed types (type_plan id)))
      (joins Any Any Any (text_plan id) (typed types (type_plan id)) gives (text_row id k)
      (typed_row types (type_plan id) (type_row id k)) (λ two good. gives_row Any two tt)) (λ two any. tt)

  array_row : (types : Bool) (value : Value) (id : ℕ) → P (object id) → Row OfSeen (array_plan types value id)
  array_row types value id k = makes Any OfSeen (array_seen types value id) (both (type_plan id) (length_plan id))
      (joins Any Any Any (type_plan id) (length_plan id) gives (type_row id k) (length_row id k)
      (λ two good. gives_row Any two tt)) (λ two any. k)

  object_row : (types : Bool) (value : Value) (id : ℕ) → P (object id) → Row OfSeen (object_plan types value id)
  object_row types value id k =
      makes Any OfSeen (object_seen types value id) (type_plan id) (type_row id k) (λ signature any. k)

  seen_row : (types : Bool) (v : Valued) → OfDeclared v.declared → OfValue v.value → Row OfSeen (seen_plan types v)
  seen_row types v d k = by_value v.value k
    where
      by_value : (value : Value) → OfValue value → Row OfSeen (seen_by types v value)
      by_value (values.Object o) k = object_row_of OfSeen o.0 _ _ k (null_row types v d) (object_row types v.value)
      by_value (values.Array o) k = object_row_of OfSeen o.0 _ _ k (null_row types v d) (array_row types v.value)
      by_value (values.String o) k = object_row_of OfSeen o.0 _ _ k (null_row types v d) (string_row types v.value)
      by_value (values.Thread o) k = object_row_of OfSeen o.0 _ _ k (null_row types v d) (object_row types v.value)
      by_value (values.ThreadGroup o) k = object_row_of OfSeen o.0 _ _ k (null_row types v d) (object_row types v.value)
      by_value (values.ClassLoader o) k = object_row_of OfSeen o.0 _ _ k (null_row types v d) (object_row types v.value)
      by_value (values.ClassObject o) k = object_row_of OfSeen o.0 _ _ k (null_row types v d) (object_row types v.value)
      by_value _ k = gives_row OfSeen _ tt

  -- children: their values stand where ids say that were read
  abbrev OfPlace : Place → Type 0
  OfPlace (is_known value) = OfValue value
  OfPlace (in_slot slot tag) = Unit {0}
  OfPlace (in_field one) = P (field one.0)
  OfPlace (at_index i) = Unit {0}

  abbrev OfChild : Child → Type 0
  OfChild child = OfDeclared child.declared × OfPlace child.place

  this_heard : (heard : Option Answer) → IsHeard P heard → OfValue (this_in heard)
  this_heard (Some (answers.ThisObject value)) k = all_front P (ids_of_value value) [] k
  this_heard _ k = tt

  this_row : (f : FrameThing) → OfFrameThing P f → Row OfValue (this_plan f)
  this_row f k = asks OfValue this_in (Want.Must (questions.ThisObject f.thread f.frame))
      (record { ids = (k.0, (k.1, tt)); plain = refl; first = refl }) this_heard

  variables_mapped : (variables : List Variable) → All OfChild (map of_variable variables)
  variables_mapped [] = tt
  variables_mapped (v ∷ variables) = ((tt, tt), variables_mapped variables)

  visible_row : (f : FrameThing) → OfFrameThing P f → Row (All OfChild) (visible_plan f)
  visible_row f k = makes Any (All OfChild) (visible_at f.at.index) (variables_plan f.at.class f.at.method)
      (asks Any listed_variables (Want.Fact (questions.VariableTable f.at.class f.at.method))
      (record { ids = (k.2, (k.3, tt)); plain = refl; first = refl }) (λ heard any. tt))
      (λ variables any. variables_mapped (by_slot (filter (is_visible f.at.index) variables)))

  this_stands : (value : Value) (id : ℕ) → OfValue value → All OfChild (of_this value id)
  this_stands value zero k = tt
  this_stands value (suc id) k = ((tt, k), tt)

  locals_row : (f : FrameThing) → OfFrameThing P f → Row (All OfChild) (locals_plan f)
  locals_row f k = makes (λ two. OfValue two.0 × All OfChild two.1) (All OfChild) with_this
      (both (this_plan f) (visible_plan f))
      (joins OfValue (All OfChild) (λ two. OfValue two.0 × All OfChild two.1) (this_plan f) (visible_plan f) gives
      (this_row f k) (visible_row f k) (λ two good. gives_row (λ two. OfValue two.0 × All OfChild two.1) two good))
      (λ two good. all_joined OfChild (of_this two.0 (object_named two.0)) two.1
      (this_stands two.0 (object_named two.0) good.0) good.1)

  -- an object's classes are those in the answers, and so are its fields
  abbrev OfNumber : ℕ → Type 0
  OfNumber c = P (class c)

  abbrev OfField : Field → Type 0
  OfField one = P (field one.id.0)

  abbrev OfClassFields : ℕ × List Field → Type 0
  OfClassFields two = OfNumber two.0 × All OfField two.1

  abbrev OfFieldOf : FieldOf → Type 0
  OfFieldOf one = OfNumber one.class × OfField one.field

  above_heard : (heard : Option Answer) → IsHeard P heard → OfClass P (above_in heard)
  above_heard (Some (answers.Superclass above)) k = k.0
  above_heard _ k = null

  chain_row : (steps : ℕ) (met : List ℕ) (c : ℕ) → All OfNumber met → OfNumber c
      → Row (All OfNumber) (chain steps met c)
  unfolding chain
  chain_row (suc steps) met (suc c) h k = by_met (list_any (λ other. other == suc c) met)
      (λ above good. chain_row steps (met ++ suc c ∷ []) above (all_joined OfNumber met (suc c ∷ []) h (k, tt)) good)
    where
      by_met : (is : Bool)
          → ((above : ℕ) → OfNumber above → Row (All OfNumber) (chain steps (met ++ suc c ∷ []) above))
          → Row (All OfNumber) (elim is [
            | true ↦ gives met
            | false ↦ chained (above_plan (suc c)) (λ above. chain steps (met ++ suc c ∷ []) above.0)
          ])
      by_met true behind = gives_row (All OfNumber) met h
      by_met false behind = chains (OfClass P) (All OfNumber) (above_plan (suc c))
          (λ above. chain steps (met ++ suc c ∷ []) above.0)
          (asks (OfClass P) above_in (Want.Fact (questions.Superclass (record { 0 = suc c })))
          (record { ids = (k, tt); plain = refl; first = refl }) above_heard)
          (λ above good. behind above.0 good)
  chain_row _ met _ h k = gives_row (All OfNumber) met h

  fields_heard : (heard : Option Answer) → IsHeard P heard → All OfField (fields_in heard)
  fields_heard (Some (answers.Fields (one ∷ others))) k = (k.0, fields_heard (Some (answers.Fields others)) k.1)
  fields_heard _ k = tt

  class_fields_row : (c : ℕ) → OfNumber c → Row OfClassFields (class_fields c)
  class_fields_row c k = makes (All OfField) OfClassFields _ (fields_plan c)
      (asks (All OfField) fields_in (Want.Fact (questions.Fields (record { 0 = c })))
      (record { ids = (k, tt); plain = refl; first = refl }) fields_heard) (λ fields good. (k, good))

  chain_fields_row : (c : ClassId) → OfClass P c → Row (All OfClassFields) (chain_fields c)
  chain_fields_row c k = chains (All OfNumber) (All OfClassFields) (chain reach [] c.0) (each class_fields)
      (chain_row reach [] c.0 tt k) (every OfNumber OfClassFields class_fields class_fields_row)

  fields_stand : (c : ℕ) → OfNumber c → (met : List (List ℕ)) (fields : List Field) → All OfField fields
      → All OfFieldOf (of_fields c met fields)
  fields_stand c k met [] h = tt
  fields_stand c k met (f ∷ fields) h = ((k, h.0), fields_stand c k (with_name met (lossy f.name)) fields h.1)

  classes_stand : (met : List (List ℕ)) (classes : List (ℕ × List Field)) → All OfClassFields classes
      → All OfFieldOf (of_classes met classes)
  classes_stand met [] h = tt
  classes_stand met (one ∷ classes) h = all_joined OfFieldOf (of_fields one.0 met (own_fields one.1))
      (of_classes (names_met met (own_fields one.1)) classes)
      (fields_stand one.0 h.0.0 met (own_fields one.1) (kept_all OfField _ one.1 h.0.1))
      (classes_stand (names_met met (own_fields one.1)) classes h.1)

  field_row_of : (f : FieldOf) → OfFieldOf f → Row OfChild (field_plan f)
  field_row_of f k = makes Any OfChild (of_field f.field) (field_name_plan f.class (lossy f.field.name) f.is_met)
      (by_met f.is_met) (λ name any. (tt, k.1))
    where
      by_met : (met : Bool) → Row Any (field_name_plan f.class (lossy f.field.name) met)
      by_met false = gives_row Any _ tt
      by_met true = makes Any Any (with_class (lossy f.field.name)) (signature_of (record { 0 = f.class }))
          (signature_row (record { 0 = f.class }) k.0) (λ signature any. tt)

  object_fields_row : (id : ℕ) → P (object id) → Row (All OfChild) (object_fields id)
  object_fields_row id k = chains (All OfClassFields) (All OfChild) (chained (class_of id) chain_fields) fields_named
      (chains (OfClass P) (All OfClassFields) (class_of id) chain_fields (class_row_of id k) chain_fields_row)
      (λ classes h. every OfFieldOf OfChild field_plan field_row_of (of_classes [] classes) (classes_stand [] classes h))

  -- pages
  elements_stand : (array : ℕ) → P (object array) → (indexes : List ℕ) → All OfChild (map (of_index array) indexes)
  elements_stand array k [] = tt
  elements_stand array k (i ∷ indexes) = ((k, tt), elements_stand array k indexes)

  dropped_all : {A : Type 0} (Good : A → Type 0) (n : ℕ) (list : List A) → All Good list → All Good (drop n list)
  dropped_all Good zero list h = h
  dropped_all Good (suc n) [] h = tt
  dropped_all Good (suc n) (a ∷ list) h = dropped_all Good n list h.1

  taken_all : {A : Type 0} (Good : A → Type 0) (n : ℕ) (list : List A) → All Good list → All Good (take n list)
  taken_all Good (suc n) (a ∷ list) h = (h.0, taken_all Good n list h.1)
  taken_all Good _ _ h = tt

  page_all : {A : Type 0} (Good : A → Type 0) (start count : ℕ) (list : List A) → All Good list
      → All Good (page start count list)
  page_all Good start count list h = taken_all Good (count_from (length list) start count) (drop start list)
      (dropped_all Good start list h)

  abbrev OfTwo : Child × Value → Type 0
  OfTwo two = OfChild two.0 × OfValue two.1

  zipped : (children : List Child) (found : List Value) → All OfChild children → All OfValue found
      → All OfTwo (zip children found)
  zipped (child ∷ children) (value ∷ found) h k = ((h.0, k.0), zipped children found h.1 k.1)
  zipped _ _ h k = tt

  listed_values : (found : List Value) → All P (flat_map ids_of_value found) → All OfValue found
  listed_values [] h = tt
  listed_values (value ∷ found) h = (
    all_front P (ids_of_value value) (flat_map ids_of_value found) h,
    listed_values found (all_back P (ids_of_value value) (flat_map ids_of_value found) h),
  )

  values_heard : (heard : Option Answer) → IsHeard P heard → All OfValue (values_in heard)
  values_heard (Some (answers.GetSlots found)) k =
      listed_values found (all_front P (flat_map ids_of_value found) [] k)
  values_heard (Some (answers.GetFields found)) k =
      listed_values found (all_front P (flat_map ids_of_value found) [] k)
  values_heard (Some (answers.GetElements region)) k =
      listed_values region.values (all_front P (flat_map ids_of_value region.values) [] k)
  values_heard _ k = tt

  known_stand : (children : List Child) → All OfChild children → All OfValue (values_known children)
  known_stand [] h = tt
  known_stand (child ∷ children) h = by_place child.place h.0.1 (known_stand children h.1)
    where
      by_place : (place : Place) → OfPlace place → All OfValue (values_known children)
          → All OfValue (cons_option (known_at place) (values_known children))
      by_place (is_known value) k rest = (k, rest)
      by_place _ k rest = rest

  slots_row : (f : FrameThing) → OfFrameThing P f → (slots : List Slot) → is_short slots ≡ true
      → Row (All OfValue) (slots_plan f slots)
  slots_row f k [] short = gives_row (All OfValue) [] tt
  slots_row f k (slot ∷ slots) short = asks (All OfValue) values_in
      (Want.Must (questions.GetSlots f.thread f.frame (slot ∷ slots))) (record {
        ids = (k.0, (k.1, all_joined P (flat_map (λ (one : Slot). []) slots) [] (none_in P slots) tt));
        plain = rw short refl;
        first = refl;
      }) values_heard

  fields_asked : (fields : List FieldId) → All (λ (one : FieldId). P (field one.0)) fields
      → All P (flat_map (λ (one : FieldId). field one.0 ∷ []) fields)
  fields_asked [] h = tt
  fields_asked (one ∷ fields) h = (h.0, fields_asked fields h.1)

  field_values_row : (id : ℕ) → P (object id) → (fields : List FieldId)
      → All (λ (one : FieldId). P (field one.0)) fields → is_short fields ≡ true
      → Row (All OfValue) (field_values id fields)
  field_values_row id k [] h short = gives_row (All OfValue) [] tt
  field_values_row id k (one ∷ fields) h short = asks (All OfValue) values_in
      (Want.Must (questions.GetFields (record { 0 = id }) (one ∷ fields))) (record {
        ids = (
          k,
          (
            h.0,
            all_joined P (flat_map (λ (one : FieldId). field one.0 ∷ []) fields) []
                (fields_asked fields h.1) tt,
          ),
        );
        plain = rw short refl;
        first = refl;
      }) values_heard

  elements_row : (array : ℕ) → P (object array) → (start count : ℕ) → Row (All OfValue) (elements_plan array start count)
  elements_row array k start zero = gives_row (All OfValue) [] tt
  elements_row array k start (suc count) = asks (All OfValue) values_in
      (Want.Must (questions.GetElements (record { 0 = array }) (pos start) (pos (suc count))))
      (record { ids = (k, tt); plain = refl; first = refl }) values_heard

  -- a page is short
  few_taken : {A : Type 0} (n : ℕ) (list : List A) → length (take n list) ≤ n
  few_taken (suc n) (a ∷ list) = let rest = few_taken n list in omega (arith, rest)
  few_taken _ _ = omega arith

  few_counted : (total start count : ℕ) → count_from total start count ≤ 10000
  few_counted total start zero = grind arith
  few_counted total start (suc count) = grind arith

  few_kept : {A B : Type 0} (f : A → Option B) (list : List A) → length (filter_map f list) ≤ length list
  few_kept f [] = omega arith
  few_kept {A} {B} f (a ∷ list) = by_one (f a) (few_kept f list)
    where
      by_one : (one : Option B) → length (filter_map f list) ≤ length list
          → length (cons_option one (filter_map f list)) ≤ length (a ∷ list)
      by_one None rest = omega (arith, rest)
      by_one (Some b) rest = omega (arith, rest)

  short_page : {B : Type 0} (f : Child → Option B) (start count : ℕ) (children : List Child)
      → is_short (filter_map f (page start count children)) ≡ true
  short_page f start count children =
      let kept = few_kept f (page start count children) in
      let taken = few_taken (count_from (length children) start count) (drop start children) in
      let counted = few_counted (length children) start count in
      short (length (filter_map f (page start count children))) (omega (arith, kept, taken, counted))
    where
      short : (n : ℕ) → n ≤ 10000 → nat_lt n 2147483648 ≡ true
      short n few = grind (arith, few)

  locals_page_row : (f : FrameThing) → OfFrameThing P f → (start count : ℕ) → Row (All OfTwo) (locals_page f start count)
  locals_page_row f k start count = chains (All OfChild) (All OfTwo) (locals_plan f)
      (λ children. locals_valued f (page start count children)) (locals_row f k)
      (λ children h. let shown = page start count children in let stand = page_all OfChild start count children h in
      makes (All OfValue) (All OfTwo) (with_known shown) (slots_plan f (slots_of shown))
      (slots_row f k (slots_of shown) (short_page (λ child. slot_at child.place) start count children))
      (λ found good. zipped shown (values_known shown ++ found) stand
      (all_joined OfValue (values_known shown) found (known_stand shown stand) good)))

  fields_known : (children : List Child) → All OfChild children → All (λ (one : FieldId). P (field one.0)) (fields_of children)
  fields_known [] h = tt
  fields_known (child ∷ children) h = by_place child.place h.0.1 (fields_known children h.1)
    where
      by_place : (place : Place) → OfPlace place → All (λ (one : FieldId). P (field one.0)) (fields_of children)
          → All (λ (one : FieldId). P (field one.0)) (cons_option (field_at place) (fields_of children))
      by_place (in_field one) k rest = (k, rest)
      by_place _ k rest = rest

  fields_page_row : (id : ℕ) → P (object id) → (start count : ℕ) → Row (All OfTwo) (fields_page start count id)
  fields_page_row id k start count = chains (All OfChild) (All OfTwo) (object_fields id)
      (λ children. fields_valued id (page start count children)) (object_fields_row id k)
      (λ children h. let shown = page start count children in let stand = page_all OfChild start count children h in
      makes (All OfValue) (All OfTwo) (zip shown) (field_values id (fields_of shown))
      (field_values_row id k (fields_of shown) (fields_known shown stand)
      (short_page (λ child. field_at child.place) start count children))
      (λ found good. zipped shown found stand good))

  elements_page_row : (id : ℕ) → P (object id) → (start count : ℕ) → Row (All OfTwo) (elements_page start count id)
  elements_page_row id k start count = chains Any (All OfTwo) (length_plan id)
      (λ total. elements_valued id start (count_from total start count)) (length_row id k)
      (λ total any. let n = count_from total start count in
      makes (All OfValue) (All OfTwo) (zip (elements_of id start n)) (elements_plan id start n)
      (elements_row id k start n) (λ found good. zipped (elements_of id start n) found (elements_stand id k _) good))

  page_row : (thing : Thing) → OfThing P thing → (filter : Filter) (start count : ℕ)
      → Row (All OfTwo) (page_plan thing filter start count)
  page_row (things.Locals f) k Both start count = locals_page_row f k start count
  page_row (things.Locals f) k Named start count = locals_page_row f k start count
  page_row (things.Object o) k Both start count = by_id_row (All OfTwo) o.0 (gives []) (fields_page start count)
      (gives_row (All OfTwo) [] tt) (fields_page_row o.0 k start count)
  page_row (things.Object o) k Named start count = by_id_row (All OfTwo) o.0 (gives []) (fields_page start count)
      (gives_row (All OfTwo) [] tt) (fields_page_row o.0 k start count)
  page_row (things.Array o) k Both start count = by_id_row (All OfTwo) o.0 (gives []) (elements_page start count)
      (gives_row (All OfTwo) [] tt) (elements_page_row o.0 k start count)
  page_row (things.Array o) k Indexed start count = by_id_row (All OfTwo) o.0 (gives []) (elements_page start count)
      (gives_row (All OfTwo) [] tt) (elements_page_row o.0 k start count)
  page_row _ k _ start count = gives_row (All OfTwo) [] tt

  child_row : (types : Bool) (two : Child × Value) → OfTwo two → Row (OfShownVariable P) (child_plan types two)
  child_row types two k = makes OfSeen (OfShownVariable P) (shown_as two.0.name)
      (seen_plan types (record { value = two.1; declared = two.0.declared }))
      (seen_row types (record { value = two.1; declared = two.0.declared }) k.0.0 k.1) (λ seen good. good)

  children_row : (types : Bool) (thing : Thing) → OfThing P thing → (filter : Filter) (start count : ℕ)
      → Row (IsGood P) (children_plan types thing filter start count)
  children_row types thing k filter start count = makes (All (OfShownVariable P)) (IsGood P) variables_found
      (chained (page_plan thing filter start count) (values_shown types))
      (chains (All OfTwo) (All (OfShownVariable P)) (page_plan thing filter start count) (values_shown types)
      (page_row thing k filter start count)
      (λ children h. every OfTwo (OfShownVariable P) (child_plan types) (child_row types) children h))
      (λ shown good. good)

  -- an expression: each value on the way is of an id that was read
  abbrev OfSought : Sought → Type 0
  OfSought (Ok v) = OfDeclared v.declared × OfValue v.value
  OfSought (Err failure) = Unit {0}

  missing_row : (failure : Failure) → Row OfSought (missing failure)
  missing_row failure = gives_row OfSought (Err failure) tt

  on_row : (go : Valued → Plan Sought)
      → ((v : Valued) → OfDeclared v.declared × OfValue v.value → Row OfSought (go v))
      → (sought : Sought) → OfSought sought → Row OfSought (on_value go sought)
  on_row go k (Ok v) h = k v h
  on_row go k (Err failure) h = missing_row failure

  one_stands : (declared : Declared) → OfDeclared declared → (found : List Value) → All OfValue found
      → OfSought (one_of declared found)
  one_stands declared d [] h = tt
  one_stands declared d (value ∷ others) h = (d, h.0)

  field_found : (name : List ℕ) (fields : List Field) → All OfField fields → OnSome OfField (find (λ f. bytes_eq f.name name) fields)
  field_found name [] h = tt
  field_found name (f ∷ fields) h = by_name (bytes_eq f.name name) (field_found name fields h.1)
    where
      by_name : (is : Bool) → OnSome OfField (find (λ f. bytes_eq f.name name) fields)
          → OnSome OfField (cond is (Some f) (find (λ f. bytes_eq f.name name) fields))
      by_name true rest = h.0
      by_name false rest = rest

  found_row : (found : Option Field) → OnSome OfField found → (above : Plan (Option Field))
      → Row (OnSome OfField) above → Row (OnSome OfField) (found_or found above)
  found_row (Some f) k above rest = gives_row (OnSome OfField) (Some f) k
  found_row None k above rest = rest

  field_from_row : (steps : ℕ) (met : List ℕ) (name : List ℕ) (c : ℕ) → OfNumber c
      → Row (OnSome OfField) (field_from steps met name c)
  unfolding field_from
  field_from_row (suc steps) met name (suc c) k = by_met (list_any (λ other. other == suc c) met)
      (λ above good. field_from_row steps (met ++ suc c ∷ []) name above good)
    where
      next : Plan (Option Field)
      next = chained (above_plan (suc c)) (λ above. field_from steps (met ++ suc c ∷ []) name above.0)

      by_met : (is : Bool)
          → ((above : ℕ) → OfNumber above → Row (OnSome OfField) (field_from steps (met ++ suc c ∷ []) name above))
          → Row (OnSome OfField) (elim is [
            | true ↦ gives None
            | false ↦ chained (fields_plan (suc c)) (λ fields. found_or (field_named name fields) next)
          ])
      by_met true behind = gives_row (OnSome OfField) None tt
      by_met false behind = chains (All OfField) (OnSome OfField) (fields_plan (suc c))
          (λ fields. found_or (field_named name fields) next)
          (asks (All OfField) fields_in (Want.Fact (questions.Fields (record { 0 = suc c })))
          (record { ids = (k, tt); plain = refl; first = refl }) fields_heard)
          (λ fields good. found_row (field_named name fields)
          (field_found name (own_fields fields) (kept_all OfField _ fields good)) next
          (chains (OfClass P) (OnSome OfField) (above_plan (suc c))
          (λ above. field_from steps (met ++ suc c ∷ []) name above.0)
          (asks (OfClass P) above_in (Want.Fact (questions.Superclass (record { 0 = suc c })))
          (record { ids = (k, tt); plain = refl; first = refl }) above_heard)
          (λ above good. behind above.0 good)))
  field_from_row _ met name _ k = gives_row (OnSome OfField) None tt

  field_value_row : (id : ℕ) → P (object id) → (f : Option Field) → OnSome OfField f → Row OfSought (field_value id f)
  field_value_row id k None h = missing_row no_such_name
  field_value_row id k (Some f) h = makes (All OfValue) OfSought (one_of (is_signature f.signature))
      (field_values id (f.id ∷ [])) (field_values_row id k (f.id ∷ []) (h, tt) refl)
      (λ found good. one_stands (is_signature f.signature) tt found good)

  field_hop_row : (id : ℕ) → P (object id) → (name : List ℕ) → Row OfSought (field_hop name id)
  field_hop_row id k name = chains (OfClass P) OfSought (class_of id) (class_field name id) (class_row_of id k)
      (λ class good. chains (OnSome OfField) OfSought (field_from reach [] name class.0) (field_value id)
      (field_from_row reach [] name class.0 good) (field_value_row id k))

  length_hop_row : (id : ℕ) → P (object id) → (name : List ℕ) → Row OfSought (length_hop name id)
  length_hop_row id k name = by_name (bytes_eq name (codes "length"))
    where
      by_name : (is : Bool) → Row OfSought (length_if is id)
      by_name true = makes Any OfSought as_length (length_plan id) (length_row id k) (λ total any. (tt, tt))
      by_name false = missing_row no_such_name

  element_hop_row : (id : ℕ) → P (object id) → (i : ℕ) → Row OfSought (element_hop i id)
  element_hop_row id k i = chains Any OfSought (length_plan id) (λ total. element_if (nat_lt i total) i id)
      (length_row id k) (λ total any. inside (nat_lt i total))
    where
      inside : (is : Bool) → Row OfSought (element_if is i id)
      inside true = makes (All OfValue) OfSought (one_of (element_of id)) (elements_plan id i 1) (elements_row id k i 1)
          (λ found good. one_stands (element_of id) k found good)
      inside false = missing_row bad_index

  name_on_row : (name : List ℕ) (value : Value) → OfValue value → Row OfSought (name_on name value)
  name_on_row name (values.Array o) k =
      object_row_of OfSought o.0 (missing no_such_name) (length_hop name) k (missing_row no_such_name)
      (λ id k. length_hop_row id k name)
  name_on_row name (values.Object o) k =
      object_row_of OfSought o.0 (missing no_such_name) (field_hop name) k (missing_row no_such_name)
      (λ id k. field_hop_row id k name)
  name_on_row name (values.Thread o) k =
      object_row_of OfSought o.0 (missing no_such_name) (field_hop name) k (missing_row no_such_name)
      (λ id k. field_hop_row id k name)
  name_on_row name (values.ThreadGroup o) k =
      object_row_of OfSought o.0 (missing no_such_name) (field_hop name) k (missing_row no_such_name)
      (λ id k. field_hop_row id k name)
  name_on_row name (values.ClassLoader o) k =
      object_row_of OfSought o.0 (missing no_such_name) (field_hop name) k (missing_row no_such_name)
      (λ id k. field_hop_row id k name)
  name_on_row name (values.ClassObject o) k =
      object_row_of OfSought o.0 (missing no_such_name) (field_hop name) k (missing_row no_such_name)
      (λ id k. field_hop_row id k name)
  name_on_row name _ k = missing_row no_such_name

  index_on_row : (i : ℕ) (value : Value) → OfValue value → Row OfSought (index_on i value)
  index_on_row i (values.Array o) k =
      object_row_of OfSought o.0 (missing bad_index) (element_hop i) k (missing_row bad_index)
      (λ id k. element_hop_row id k i)
  index_on_row i _ k = missing_row bad_index

  hop_row : (hop : Hop) (value : Value) → OfValue value → Row OfSought (hop_on hop value)
  hop_row (hops.Field name) value k = name_on_row name value k
  hop_row (hops.Index i) value k = index_on_row i value k

  hops_row : (list : List Hop) (v : Valued) → OfDeclared v.declared × OfValue v.value → Row OfSought (hops_on list v)
  hops_row [] v h = gives_row OfSought (Ok v) h
  hops_row (hop ∷ others) v h = chains OfSought OfSought (hop_on hop v.value) (on_value (hops_on others))
      (hop_row hop v.value h.1) (on_row (hops_on others) (hops_row others))

  receiver_stands : (value : Value) (id : ℕ) → OfValue value → OfSought (this_by value id)
  receiver_stands value zero k = tt
  receiver_stands value (suc id) k = (tt, k)

  named_head_row : (f : FrameThing) → OfFrameThing P f → (name : List ℕ) (found : Option Variable)
      → Row OfSought (named_head f name found)
  named_head_row f k name None =
      chains OfValue OfSought (this_plan f) (name_on name) (this_row f k) (name_on_row name)
  named_head_row f k name (Some v) = makes (All OfValue) OfSought (one_of (is_signature v.signature))
      (slots_plan f (record { slot = v.slot; tag = first_byte v.signature } ∷ []))
      (slots_row f k (record { slot = v.slot; tag = first_byte v.signature } ∷ []) refl)
      (λ found good. one_stands (is_signature v.signature) tt found good)

  head_row : (f : FrameThing) → OfFrameThing P f → (head : Head) → Row OfSought (head_in f head)
  head_row f k heads.This = makes OfValue OfSought as_this (this_plan f) (this_row f k)
      (λ value good. receiver_stands value (object_named value) good)
  head_row f k (heads.Name name) = chains Any OfSought (variables_plan f.at.class f.at.method)
      (λ variables. named_head f name (variable_named name f.at.index variables))
      (asks Any listed_variables (Want.Fact (questions.VariableTable f.at.class f.at.method))
      (record { ids = (k.2, (k.3, tt)); plain = refl; first = refl }) (λ heard any. tt))
      (λ variables any. named_head_row f k name (variable_named name f.at.index variables))

  shown_value_row : (types : Bool) (sought : Sought) → OfSought sought → Row (IsGood P) (shown_value types sought)
  shown_value_row types (Ok v) h =
      makes OfSeen (IsGood P) value_found (seen_plan types v) (seen_row types v h.0 h.1) (λ seen good. good)
  shown_value_row types (Err failure) h = gives_row (IsGood P) (no_value failure) tt

  value_row : (types : Bool) (f : FrameThing) → OfFrameThing P f → (e : Expr) → Row (IsGood P) (value_plan types f e)
  value_row types f k e = chains OfSought (IsGood P) (named_in f e) (shown_value types)
      (chains OfSought OfSought (head_in f e.head) (on_value (hops_on e.steps)) (head_row f k e.head)
      (on_row (hops_on e.steps) (hops_row e.steps))) (shown_value_row types)

  -- what is written stands where ids say that were read, and is null or no reference
  stored : (w : Writing) (store : Option Store) → OnSome (OfStore P) store → (declared : List ℕ)
      (value : Result Value Failure) → OfValueRead value → IsGood P (write_with w store declared value)
  stored w None k declared (Ok value) h = tt
  stored w (Some store) k declared (Ok value) h = record { of_store = k; plain = h }
  stored w None k declared (Err failure) h = tt
  stored w (Some store) k declared (Err failure) h = tt

  child_row_written : (w : Writing) (store_in : Place → Option Store)
      → ((place : Place) → OfPlace place → OnSome (OfStore P) (store_in place)) → (child : Option Child)
      → OnSome OfChild child → Row (IsGood P) (child_written w store_in child)
  child_row_written w store_in stores None h = gives_row (IsGood P) (no_value no_such_name) tt
  child_row_written w store_in stores (Some child) h = makes Any (IsGood P)
      (λ declared. write_with w (store_in child.place) declared (value_for declared w.text)) (declared_plan child.declared)
      (declared_row child.declared h.0)
      (λ declared any. stored w (store_in child.place) (stores child.place h.1) declared (value_for declared w.text)
      (value_read declared w.text))

  child_found : (name : List ℕ) (children : List Child) → All OfChild children → OnSome OfChild (child_named name children)
  child_found name [] h = tt
  child_found name (child ∷ children) h = by_name (bytes_eq child.name name) (child_found name children h.1)
    where
      by_name : (is : Bool) → OnSome OfChild (child_named name children)
          → OnSome OfChild (cond is (Some child) (child_named name children))
      by_name true rest = h.0
      by_name false rest = rest

  slot_stores : (f : FrameThing) → OfFrameThing P f → (place : Place) → OfPlace place
      → OnSome (OfStore P) (slot_store f place)
  slot_stores f k (in_slot slot tag) h = (k.0, k.1)
  slot_stores f k _ h = tt

  field_stores : (id : ℕ) → P (object id) → (place : Place) → OfPlace place → OnSome (OfStore P) (field_store id place)
  field_stores id k (in_field one) h = (k, h)
  field_stores id k _ h = tt

  element_stores : (id : ℕ) → P (object id) → (place : Place) → OfPlace place
      → OnSome (OfStore P) (element_store id place)
  element_stores id k (at_index i) h = k
  element_stores id k _ h = tt

  sought_row : (f : FrameThing) → OfFrameThing P f → (this : Bool) → Row (All OfChild) (sought_in f this)
  sought_row f k false = visible_row f k
  sought_row f k true = locals_row f k

  local_written_row : (w : Writing) (f : FrameThing) → OfFrameThing P f → (name : List ℕ)
      → Row (IsGood P) (local_written w f name)
  local_written_row w f k name = chains (All OfChild) (IsGood P) (sought_in f (is_this name))
      (λ children. child_written w (slot_store f) (child_named name children)) (sought_row f k (is_this name))
      (λ children h. child_row_written w (slot_store f) (slot_stores f k) (child_named name children)
      (child_found name children h))

  field_written_row : (w : Writing) (name : List ℕ) (id : ℕ) → P (object id) → Row (IsGood P) (field_written w name id)
  field_written_row w name id k = chains (All OfChild) (IsGood P) (object_fields id)
      (λ children. child_written w (field_store id) (child_named name children)) (object_fields_row id k)
      (λ children h. child_row_written w (field_store id) (field_stores id k) (child_named name children)
      (child_found name children h))

  element_by_row : (w : Writing) (inside named : Bool) (id i : ℕ) → P (object id)
      → Row (IsGood P) (element_by w inside named id i)
  element_by_row w false named id i k = gives_row (IsGood P) (no_value bad_index) tt
  element_by_row w true false id i k = gives_row (IsGood P) (no_value no_such_name) tt
  element_by_row w true true id i k =
      child_row_written w (element_store id) (element_stores id k) (Some (of_index id i)) (k, tt)

  index_written_row : (w : Writing) (name : List ℕ) (is : Bool) (id : ℕ) → P (object id)
      → Row (IsGood P) (index_written w name is id)
  index_written_row w name false id k = gives_row (IsGood P) (no_value no_such_name) tt
  index_written_row w name true id k = let i = digits_value 10 (digits_of name) in
      chains Any (IsGood P) (length_plan id) (λ total. element_by w (nat_lt i total) (bytes_eq name (index_name i)) id i)
      (length_row id k) (λ total any. element_by_row w (nat_lt i total) (bytes_eq name (index_name i)) id i k)

  write_row : (w : Writing) (thing : Thing) → OfThing P thing → (name : List ℕ) → Row (IsGood P) (write_by w thing name)
  write_row w (things.Frame f) k name = gives_row (IsGood P) (no_value no_such_name) tt
  write_row w (things.Locals f) k name = local_written_row w f k name
  write_row w (things.Object o) k name = by_id_row (IsGood P) o.0 (gives (no_value no_such_name)) (field_written w name)
      (gives_row (IsGood P) (no_value no_such_name) tt) (field_written_row w name o.0 k)
  write_row w (things.Array o) k name =
      by_id_row (IsGood P) o.0 (gives (no_value no_such_name)) (index_written w name (is_index_name name))
      (gives_row (IsGood P) (no_value no_such_name) tt) (index_written_row w name (is_index_name name) o.0 k)

  -- what was thrown, unless it is null
  id_of : (id : ℕ) → OfObject P id → All P (id_of_object id)
  id_of zero k = tt
  id_of (suc id) k = (k, tt)

  name_row : (heard : Option Answer) → IsHeard P heard → Row Any (text_by heard)
  name_row (Some (answers.ObjectType tag c)) k = makes Any Any name_by (signature_of c) (signature_row c k.0) (λ name any. tt)
  name_row _ k = gives_row Any None tt

  named_row : (id : ℕ) → P (object id) → Row Any (named_plan id)
  named_row id k = chains (IsHeard P) Any (heard_plan id) text_by
      (asks (IsHeard P) (λ heard. heard) (Want.May (questions.ObjectType (record { 0 = id })))
      (record { ids = (k, tt); plain = refl; first = refl }) (λ heard k. k)) name_row

  exception_text_row : (id : ℕ) → OfObject P id → Row (IsGood P) (text_of_exception id)
  exception_text_row id k = makes Any (IsGood P) text_found (by_id id (gives None) named_plan)
      (object_row_of Any id (gives None) named_plan (id_of id k) (gives_row Any None tt) named_row) (λ text any. tt)

  exception_row : (thrown : Thrown) → OfObject P thrown.object.0 → Row (IsGood P) (exception_plan thrown)
  exception_row thrown k = let name = (λ (id : ℕ). made_with class_name (type_plan id)) in
      makes Any (IsGood P) (λ id. exception_found id (mode_of thrown.caught))
      (by_id thrown.object.0 (gives (codes "null")) name)
      (object_row_of Any thrown.object.0 (gives (codes "null")) name (id_of thrown.object.0 k) (gives_row Any (codes "null") tt)
      (λ id k. makes Any Any class_name (type_plan id) (type_row id k) (λ name any. tt))) (λ id any. tt)

  -- all rows
  pub rows_stand : (lookup : Lookup) (state : State) → state.classes ≡ known → OfLookup P lookup
      → Row (IsGood P) (plan lookup state)
  rows_stand all_threads state same of = threads_row
  rows_stand (thread_frames thread start levels) state same of = frames_row state thread of start levels
  rows_stand (container_children thing filter start count) state same of =
      children_row state.options.shows_types thing of filter start count
  rows_stand (expression_value one expression) state same of =
      value_row state.options.shows_types one of expression
  rows_stand (variable_write thing name text) state same of = write_row _ thing of name
  rows_stand (exception_text thread one) state same of = exception_text_row one.0 of
  rows_stand (exception_info thrown) state same of = exception_row thrown of
  rows_stand (breakpoint_hits strikes) state same of =
      gives_row (IsGood P) (hits_found (map (λ strike. strike.entry.id) strikes) [] strikes) of
  rows_stand class_facts state same of =
      subst (λ (k : Known). Row (IsGood P) (made_with classes_found
      (classes_plan state.unlisted state.wishes.wanted (found_in k)))) (sym same)
      (makes (All (OfClass P)) (IsGood P) classes_found
      (classes_plan state.unlisted state.wishes.wanted (found_in known))
      (classes_row state.unlisted state.wishes.wanted) (λ classes good. good))

-- What stays of what binds breakpoints, where a part is done or a question is asked.
use Rattle.std.proofs.Common.{◌≡◌, ℕ, Bool, true, false, cond, not, ◌&&◌, ◌||◌, List, [], ◌∷◌, ◌++◌, Option, Some, None}
use Rattle.std.proofs.Common.{refl, sym, ap, subst, ◌∙◌, arith, suc}
use Rattle.std.specs.List.{AllByRecursion as All}
use Rattle.class_tables.specs.Facts.{Known}
use Rattle.class_tables.specs.Lookups.{found_in}
use Rattle.jdwp_commands.specs.declared.question.Question.TheVariants as questions
use Rattle.jdwp_values.specs.declared.id.ClassId.{ClassId}
use Rattle.machine_model.specs.Binding.{AreAllBound, IsBound, sight_alone}
use Rattle.machine_model.specs.Classes.{classes_plan, known_plan}
use Rattle.machine_model.specs.Due.{lacked_by, newly_lacked, with_want, with_wants, is_listed, clear, load_of, asked_by}
use Rattle.machine_model.specs.Due.{greeted_by, sized_by, way}
use Rattle.machine_model.specs.Lookups.{classes_of, found_for, sight_of, threads_plan, hits_plan}
use Rattle.machine_model.specs.Exceptions.{exception_plan, text_plan}
use Rattle.machine_model.specs.Harmless.{is_harmless}
use Rattle.machine_model.specs.Expressions.{value_plan}
use Rattle.machine_model.specs.Variables.{children_plan}
use Rattle.machine_model.proofs.IdRows.{all_weak}
use Rattle.machine_model.specs.Writing.{object_size, write_plan}
use Rattle.machine_model.specs.Outcomes.{result_of}
use Rattle.machine_model.specs.Plans.{Need, fails, has, lacks, made_with, need, question_of, after, asks_for, beside}
use Rattle.machine_model.specs.Plans.{Found, found_at, found_from, is_done, must_hear}
use Rattle.machine_model.specs.Replying.{is_waiting, learnt}
use Rattle.machine_model.specs.Requests.{Wishes}
use Rattle.machine_model.specs.Runs.{MayQueue}
use Rattle.machine_model.specs.State.{Hand, Machine, SizesRead, State, is_gone, is_some}
use Rattle.machine_model.specs.Telling.{after_event, numbered_by}
use Rattle.machine_model.specs.Frames.{frames_plan}
use Rattle.machine_model.proofs.PlanIds.{need_made}
use Rattle.machine_model.proofs.KeyLaws.{is_one}
use Rattle.machine_steps.specs.Names.{Event, Finding, Outcome, Part, Replied, Sent, Want, all_threads, class_facts}
use Rattle.machine_steps.specs.Names.{Strike, breakpoint_hits}
use Rattle.machine_laws.proofs.BindingPlans.{AllWants}
use Rattle.machine_steps.specs.Names.{classes_found, Guard, Handshake, IdSizes, container_children, exception_info}
use Rattle.machine_steps.specs.Names.{exception_text, expression_value, thread_frames, variable_write}
use Rattle.machine_steps.proofs.Frameless.{asks_stack}
use Rattle.machine_laws.proofs.SafePlans.{children_safe, exception_safe, frames_meek, is_meek, is_safe, threads_safe}
use Rattle.machine_laws.proofs.SafePlans.{thrown_safe, value_safe, write_safe}
use Rattle.machine_laws.proofs.BindingGrows.{Grows, found_still, grows_itself, still_learnt}
use Rattle.machine_laws.proofs.BindingHands.{asks_listing, awaits_listing, binds_ahead, first_note, has_note}
use Rattle.machine_laws.proofs.BindingHands.{is_placed, looks_ahead, looks_classes, looks_first, needs_watches}
use Rattle.machine_laws.proofs.BindingHands.{none_awaits, none_queued, notes_classes, notes_list, placed}
use Rattle.machine_laws.proofs.BindingHands.{queues_listing, was_listed}
use Rattle.machine_laws.proofs.BindingFacts.{bound_alike, same_known}
use Rattle.machine_laws.proofs.BindingPlans.{IsLearnt, does_fail, known_wants, need_alone, need_holds, is_listing}
use Rattle.machine_laws.proofs.BindingPlans.{plan_lacks, wants_other}
use Rattle.machine_laws.proofs.BindingSeen.{bound_still}
use Rattle.machine_steps.proofs.RequestSteps.{parts_left}
use Rattle.machine_steps.proofs.RestLaws.{is_free}
use Rattle.machine_steps.proofs.Standing.{asked_in, queue_in}
use Rattle.machine_steps.proofs.Stepping.{all_to_ask}
use Rattle.machine_steps.proofs.Tables.{is_updates}
use Rattle.machine_laws.proofs.BindingWatches.{WatchesSet, or_false}
use Rattle.wish_sets.specs.Wanted.{Wanted}
use Rattle.machine_model.proofs.Bools.{and_first}
use Rattle.std.proofs.lemmas.Bool.{not-true, or_left, or_right}

-- The invariant -------------------------------------------------------------------------------------------------------

-- these are the classes that are found, and nothing is lacking
abbrev pub IsComplete : State → List ClassId → Type 0
IsComplete state classes = (state.unlisted ≡ false)
    × (need (sight_alone state.classes) (known_plan state.wishes.wanted (found_in state.classes)) ≡ has classes)

pub record Binding (state : State) (parts : List Part) (queue : List Want) (asked : List Sent) : Type 0 where
  pub watches : needs_watches parts ≡ true → WatchesSet state.wishes
  pub learnt : All (IsLearnt state.classes) asked
  pub waits : (awaits_listing asked || queues_listing queue) ≡ true → looks_first parts ≡ true
  pub ahead : asks_listing asked ≡ true → looks_ahead parts ≡ looks_first parts
  pub listed : state.unlisted ≡ true → was_listed asked ≡ false
  pub noted : (classes : List ClassId) → first_note parts ≡ Some classes → IsComplete state classes
  pub bound : binds_ahead parts ≡ false → AreAllBound state

abbrev pub IsBinding : Machine → Type 0
IsBinding m = Binding m.state (parts_left m.hand) (queue_in m.hand) (asked_in m.hand)

-- the same is wanted, but for the step and the exceptions that stop
abbrev pub wanted_as : Wanted → Wanted → Wanted
wanted_as next wanted = record wanted { step = next.step; caught = next.caught; uncaught = next.uncaught }

-- a state that is the same for classes, but for facts that were learnt
pub record Same (next state : State) : Type 0 where
  pub unlisted : next.unlisted ≡ state.unlisted
  pub wanted : next.wishes.wanted ≡ wanted_as next.wishes.wanted state.wishes.wanted
  pub loaded : next.classes.loaded ≡ state.classes.loaded
  pub grows : Grows state.classes next.classes

pub wanted_same : (next state : State) → next.wishes.wanted ≡ state.wishes.wanted
    → next.wishes.wanted ≡ wanted_as next.wishes.wanted state.wishes.wanted
wanted_same next state same = subst (λ (w : Wanted). w ≡ wanted_as w state.wishes.wanted) (sym same) refl

pub as_before : (next state : State) → next.unlisted ≡ state.unlisted → next.wishes.wanted ≡ state.wishes.wanted
    → next.classes ≡ state.classes → Same next state
as_before next state unlisted wanted classes = record {
  unlisted = unlisted;
  wanted = wanted_same next state wanted;
  loaded = ap (λ (known : Known). known.loaded) classes;
  grows = subst (Grows state.classes) (sym classes) (grows_itself state.classes);
}

pub still_complete : (next state : State) (classes : List ClassId) → Same next state → IsComplete state classes
    → IsComplete next classes
still_complete next state classes same h = (
  same.unlisted ∙ h.0,
  ap (λ (wanted : Wanted). need (sight_alone next.classes) (known_plan wanted (found_in next.classes))) same.wanted
      ∙ same_known (sight_alone next.classes) state.wishes.wanted state.wishes.wanted.classes next.wishes.wanted.step
      next.wishes.wanted.caught next.wishes.wanted.uncaught (found_in next.classes)
      ∙ found_still state.classes next.classes same.grows same.loaded state.wishes.wanted classes h.1,
)

pub still_bound : (next state : State) → Same next state → AreAllBound state → AreAllBound next
still_bound next state same h =
    let complete = still_complete next state h.found same (h.listed, h.none_lacking) in record {
      listed = complete.0;
      found = h.found;
      none_lacking = complete.1;
      bound = subst (λ (wanted : Wanted). All (IsBound next.classes wanted) h.found) (sym same.wanted)
          (bound_alike next.classes state.wishes.wanted state.wishes.wanted.classes next.wishes.wanted.step
          next.wishes.wanted.caught next.wishes.wanted.uncaught h.found
          (bound_still state.classes next.classes same.grows same.loaded state.wishes.wanted h.found h.none_lacking
          h.bound));
    }

-- nothing of the item in hand changes
pub still_binding : {state : State} {parts : List Part} {queue : List Want} {asked : List Sent} (next : State)
    → Same next state → (needs_watches parts ≡ true → WatchesSet state.wishes → WatchesSet next.wishes)
    → Binding state parts queue asked → Binding next parts queue asked
still_binding {state} {asked = asked} next same sets h = record {
  watches = λ needs. sets needs (h.watches needs);
  learnt = still_learnt state.classes next.classes same.grows asked h.learnt;
  waits = h.waits;
  ahead = h.ahead;
  listed = λ is. h.listed (sym same.unlisted ∙ is);
  noted = λ classes is. still_complete next state classes same (h.noted classes is);
  bound = λ is. still_bound next state same (h.bound is);
}

-- One part ------------------------------------------------------------------------------------------------------------

-- where a part is done no list of classes is awaited or to be asked for
pub record IsClear (queue : List Want) (asked : List Sent) : Type 0 where
  pub none_awaits : awaits_listing asked ≡ false
  pub none_queued : queues_listing queue ≡ false

pub clear_now : (m : Machine) (hand : Hand) → load_of m ≡ clear → is_gone m.state.phase ≡ false → m.hand ≡ Some hand
    → IsClear hand.queue hand.asked
clear_now m hand free near is = let f = is_free m hand free near is in
    record { none_awaits = none_awaits hand.asked f.silent; none_queued = none_queued hand.queue f.no_queue }

pub quiet : {queue : List Want} {asked : List Sent} {A : Type 0} → IsClear queue asked
    → (awaits_listing asked || queues_listing queue) ≡ true → A
quiet {queue} {asked} c is =
    absurd (by_tests (awaits_listing asked) (queues_listing queue) c.none_awaits c.none_queued is)
  where
    by_tests : (awaits queues : Bool) → awaits ≡ false → queues ≡ false → ¬ ((awaits || queues) ≡ true)
    by_tests awaits queues a q is = grind (arith, a, q, is)

-- the part is nothing to classes
abbrev pub is_other : Part → Bool
is_other part = cond (looks_classes part) false (cond (notes_classes part) false (not (notes_list part)))

pub front_none : (part : Part) (rest : List Part) → is_other part ≡ true → looks_first (part ∷ rest) ≡ false
front_none part rest is = grind (arith, is)

pub ahead_rest : (part : Part) (rest : List Part) → is_other part ≡ true → looks_ahead (part ∷ rest) ≡ looks_ahead rest
ahead_rest part rest is = grind (arith, is)

pub binds_rest : (part : Part) (rest : List Part) → is_other part ≡ true → binds_ahead (part ∷ rest) ≡ binds_ahead rest
binds_rest part rest is = grind (arith, is)

pub needs_rest : (part : Part) (rest : List Part) → is_other part ≡ true → is_updates part ≡ false
    → needs_watches (part ∷ rest) ≡ needs_watches rest
needs_rest part rest is other = grind (arith, is, other)

pub none_ahead : (parts : List Part) → looks_ahead parts ≡ false → looks_first parts ≡ false
none_ahead parts is = grind (arith, is)

pub note_had : (parts : List Part) (classes : List ClassId) → first_note parts ≡ Some classes → has_note parts ≡ true
note_had parts classes is = grind (arith, is)

pub placed_note : (part : Part) (rest : List Part) → is_placed (part ∷ rest) ≡ true → has_note rest ≡ false
placed_note part rest is = grind (arith, is)

pub no_note : (part : Part) (rest : List Part) (classes : List ClassId) → is_placed (part ∷ rest) ≡ true
    → ¬ (first_note rest ≡ Some classes)
no_note part rest classes is some =
    let no : true ≡ false = sym (note_had rest classes some) ∙ placed_note part rest is in cc

-- other parts are the same to classes, and need no watches to be set that these don't
pub record AreLike (now rest : List Part) : Type 0 where
  pub ahead : looks_ahead now ≡ looks_ahead rest
  pub needs : needs_watches now ≡ true → needs_watches rest ≡ true
  pub notes : has_note now ≡ has_note rest
  pub binds : binds_ahead now ≡ binds_ahead rest

pub are_same : (parts : List Part) → AreLike parts parts
are_same parts = record { ahead = refl; needs = λ is. is; notes = refl; binds = refl }

-- a part in front is done that is nothing to classes, and others stand in its place
pub goes_by : {state : State} {queue : List Want} {asked : List Sent} (next : State) (part : Part) (rest now : List Part)
    → Same next state → IsClear queue asked → is_other part ≡ true → is_placed (part ∷ rest) ≡ true → AreLike now rest
    → (needs_watches rest ≡ true → (needs_watches (part ∷ rest) ≡ true → WatchesSet state.wishes)
    → WatchesSet next.wishes)
    → Binding state (part ∷ rest) queue asked → Binding next now queue asked
goes_by {state} {asked = asked} next part rest now same c other placed like sets h = record {
  watches = λ needs. sets (like.needs needs) h.watches;
  learnt = still_learnt state.classes next.classes same.grows asked h.learnt;
  waits = λ is. quiet c is;
  ahead = λ asks. let none = like.ahead ∙ sym (ahead_rest part rest other) ∙ h.ahead asks
      ∙ front_none part rest other in none ∙ sym (none_ahead now none);
  listed = λ is. h.listed (sym same.unlisted ∙ is);
  noted = λ classes is. absurd (let no : true ≡ false =
      sym (note_had now classes is) ∙ like.notes ∙ placed_note part rest placed in cc);
  bound = λ is. still_bound next state same (h.bound (binds_rest part rest other ∙ sym like.binds ∙ is));
}

-- a part that isn't `updates` leaves the watches as they are
pub leaves_watches : (state next : State) (part : Part) (rest : List Part) → is_other part ≡ true
    → is_updates part ≡ false → next.wishes ≡ state.wishes → needs_watches rest ≡ true
    → (needs_watches (part ∷ rest) ≡ true → WatchesSet state.wishes) → WatchesSet next.wishes
leaves_watches state next part rest other no_update same needs h =
    subst (λ (w : Wishes). WatchesSet w) (sym same) (h (needs_rest part rest other no_update ∙ needs))

-- Tables: what is the same for classes ---------------------------------------------------------------------------------

pub told_same : (outcome : Outcome) (state : State) → Same (numbered_by outcome state) state
told_same outcome state = as_before (numbered_by outcome state) state (grind arith) (grind arith) (grind arith)

pub event_same : (event : Event) (state : State) → Same (after_event event state) state
event_same event state = as_before (after_event event state) state (grind arith) (grind arith) (grind arith)

pub itself : (state : State) → Same state state
itself state = as_before state state refl refl refl

-- The look-up of classes ----------------------------------------------------------------------------------------------

-- what is found where nothing is lacking any more
pub found_complete : (state : State) (hand : Hand) (found : Need Finding) → state.unlisted ≡ false
    → All (IsLearnt state.classes) hand.asked → found_for class_facts state hand ≡ found → is_done found ≡ true
    → IsComplete state (classes_of (result_of found))
found_complete state hand found listed learnt is done = (
  listed,
  by_need (need (sight_alone state.classes) (known_plan state.wishes.wanted (found_in state.classes)))
      (need_holds (sight_alone state.classes) (known_plan state.wishes.wanted (found_in state.classes))
      (known_wants state.wishes.wanted (found_in state.classes))) found same done,
)
  where
    same : after (need (sight_alone state.classes) (known_plan state.wishes.wanted (found_in state.classes)))
        (λ classes. has (classes_found classes)) ≡ found
    same = ap (λ n. after n (λ classes. has (classes_found classes)))
        (sym (need_alone state.classes hand.asked (known_plan state.wishes.wanted (found_in state.classes)) learnt
        (known_wants state.wishes.wanted (found_in state.classes))))
        ∙ sym (need_made (sight_of state hand) classes_found
        (known_plan state.wishes.wanted (found_in state.classes)))
        ∙ ap (λ unlisted. need (sight_of state hand) (made_with classes_found
        (classes_plan unlisted state.wishes.wanted (found_in state.classes)))) (sym listed) ∙ is

    by_need : (n : Need (List ClassId)) → does_fail n ≡ false → (found : Need Finding)
        → after n (λ classes. has (classes_found classes)) ≡ found → is_done found ≡ true
        → n ≡ has (classes_of (result_of found))
    by_need (has classes) holds found same done =
        ap has (ap (λ (f : Need Finding). classes_of (result_of f)) same)
    by_need (fails fault) holds found same done = cc
    by_need (lacks want others) holds found same done =
        absurd (let no : false ≡ true = ap is_done same ∙ done in cc)

-- until all classes are listed their look-up isn't done
pub unlisted_waits : (state : State) (hand : Hand) → state.unlisted ≡ true → was_listed hand.asked ≡ false
    → is_done (found_for class_facts state hand) ≡ false
unfolding need
unlisted_waits state hand unlisted none =
    ap (λ unlisted. is_done (need (sight_of state hand) (made_with classes_found
    (classes_plan unlisted state.wishes.wanted (found_in state.classes))))) unlisted
    ∙ ap is_done (need_made (sight_of state hand) classes_found
    (classes_plan true state.wishes.wanted (found_in state.classes)))
    ∙ by_found (found_from 0 hand.asked questions.AllClasses) (none_found hand.asked 0 none)
    (need (sight_of state hand) (known_plan state.wishes.wanted (found_in state.classes)))
    (need_holds (sight_of state hand) (known_plan state.wishes.wanted (found_in state.classes))
    (known_wants state.wishes.wanted (found_in state.classes)))
  where
    -- whatever is known of classes, it doesn't fail, and so the list is lacking
    by_found : (found : Option Found) → found ≡ None → (known : Need (List ClassId)) → does_fail known ≡ false
        → is_done (after (after (beside (after (must_hear questions.AllClasses found) (λ heard. has [])) known)
        (λ (two : List ClassId × List ClassId). has two.0)) (λ classes. has (classes_found classes))) ≡ false
    by_found None is (has classes) holds = refl
    by_found None is (fails fault) holds = cc
    by_found None is (lacks want others) holds = refl
    by_found (Some found) is known holds = cc

    none_found : (asked : List Sent) (place : ℕ) → was_listed asked ≡ false
        → found_from place asked questions.AllClasses ≡ None
    none_found [] place none = refl
    none_found (sent ∷ asked) place none =
        by_tests (asks_for sent questions.AllClasses) refl sent.reply refl (was_listed asked) refl
        (none_found asked (suc place))
      where
        by_tests : (asks : Bool) → asks_for sent questions.AllClasses ≡ asks → (reply : Option Replied)
            → sent.reply ≡ reply → (more : Bool) → was_listed asked ≡ more
            → (was_listed asked ≡ false → found_from (suc place) asked questions.AllClasses ≡ None)
            → cond asks (found_at place reply) (found_from (suc place) asked questions.AllClasses) ≡ None
        by_tests true key None same more is again = refl
        by_tests true key (Some replied) same more is again =
            let one = is_one (question_of sent.want) questions.AllClasses key in
            absurd (let no : true ≡ false = sym (rw (same, one) refl) ∙ none in cc)
        by_tests false key reply same true is again =
            absurd (let no : true ≡ false = sym (or_right _ (was_listed asked) is) ∙ none in cc)
        by_tests false key reply same false is again = again is

-- What is to be asked -------------------------------------------------------------------------------------------------

pub queued_more : (asked : List Sent) (queue wants : List Want) → All (λ want. wants_other want ≡ true) wants
    → queues_listing queue ≡ false → queues_listing (with_wants asked queue wants) ≡ false
queued_more asked queue [] h none = none
queued_more asked queue (want ∷ wants) h none = queued_more asked (with_want asked queue want) wants h.1
    (by_test (is_waiting (question_of want) asked || is_listed (question_of want) queue))
  where
    last_one : (queue : List Want) → queues_listing queue ≡ false → queues_listing (queue ++ want ∷ []) ≡ false
    last_one [] none = rw (not-true (is_listing (question_of want)) h.0) refl
    last_one (first ∷ queue) none = grind (arith, none, last_one queue)

    by_test : (there : Bool) → queues_listing (cond there queue (queue ++ want ∷ [])) ≡ false
    by_test true = none
    by_test false = last_one queue none

-- the look-up of classes, or that of frames, stands in front
abbrev pub looks_apart : List Part → Bool
looks_apart (Part.Looks class_facts ∷ rest) = true
looks_apart (Part.Looks (thread_frames thread start levels) ∷ rest) = true
looks_apart parts = false

-- the look-up of hits asks for nothing
strikes_safe : (strikes : List Strike) → AllWants is_safe (hits_plan strikes)
unfolding AllWants
strikes_safe strikes = tt

-- only the look-up of classes asks for a list of them, and only that of frames for frames
pub lacked_safe : (state : State) (hand : Hand) (parts : List Part) → looks_apart parts ≡ false
    → All (λ want. is_safe want ≡ true) (lacked_by state hand parts)
lacked_safe state hand (Part.Looks all_threads ∷ rest) none =
    plan_lacks is_safe (sight_of state hand) threads_plan threads_safe
lacked_safe state hand (Part.Looks (thread_frames thread start levels) ∷ rest) none = cc
lacked_safe state hand (Part.Looks (container_children thing filter start count) ∷ rest) none =
    plan_lacks is_safe (sight_of state hand) (children_plan state.options.shows_types thing filter start count)
    (children_safe state.options.shows_types thing filter start count)
lacked_safe state hand (Part.Looks (expression_value frame expression) ∷ rest) none =
    plan_lacks is_safe (sight_of state hand) (value_plan state.options.shows_types frame expression)
    (value_safe state.options.shows_types frame expression)
lacked_safe state hand (Part.Looks (variable_write thing name text) ∷ rest) none =
    plan_lacks is_safe (sight_of state hand) (write_plan state.options.shows_types state.sizes thing name text)
    (write_safe (record { types = state.options.shows_types; size = object_size state.sizes; text = text }) thing name)
lacked_safe state hand (Part.Looks (exception_text thread object) ∷ rest) none =
    plan_lacks is_safe (sight_of state hand) (text_plan object.0) (thrown_safe object.0)
lacked_safe state hand (Part.Looks (exception_info thrown) ∷ rest) none =
    plan_lacks is_safe (sight_of state hand) (exception_plan thrown) (exception_safe thrown)
lacked_safe state hand (Part.Looks (breakpoint_hits strikes) ∷ rest) none =
    plan_lacks is_safe (sight_of state hand) (hits_plan strikes) (strikes_safe strikes)
lacked_safe state hand (Part.Looks class_facts ∷ rest) none = cc
lacked_safe state hand (Part.Awaits guard ∷ rest) none = guards guard
  where
    guards : (guard : Guard) → All (λ want. is_safe want ≡ true) (asked_by (way guard state))
    guards Handshake = by_tests state.greeting_sent state.greeting_heard
      where
        by_tests : (sent heard : Bool) → All (λ want. is_safe want ≡ true) (asked_by (greeted_by sent heard))
        by_tests sent heard = grind arith
    guards IdSizes = by_sizes state.sizes
      where
        by_sizes : (sizes : Option SizesRead) → All (λ want. is_safe want ≡ true) (asked_by (sized_by sizes))
        by_sizes None = (refl, tt)
        by_sizes (Some sizes) = tt
lacked_safe state hand _ none = tt

pub lacked_meek : (state : State) (hand : Hand) (parts : List Part) → looks_first parts ≡ false
    → All (λ want. is_meek want ≡ true) (lacked_by state hand parts)
lacked_meek state hand (Part.Looks (thread_frames thread start levels) ∷ rest) none =
    plan_lacks is_meek (sight_of state hand) (frames_plan state thread start levels)
    (frames_meek state thread start levels)
lacked_meek state hand parts none = by_first (looks_apart parts) refl
  where
    by_first : (first : Bool) → looks_apart parts ≡ first → All (λ want. is_meek want ≡ true) (lacked_by state hand parts)
    by_first false apart = all_weak (λ want. is_safe want ≡ true) (λ want. is_meek want ≡ true)
        (λ want. and_first (is_meek want) (not (asks_stack (question_of want)))) (lacked_by state hand parts)
        (lacked_safe state hand parts apart)
    by_first true is = cc

lacked_other : (state : State) (hand : Hand) (parts : List Part) → looks_first parts ≡ false
    → All (λ want. wants_other want ≡ true) (lacked_by state hand parts)
lacked_other state hand parts none = all_weak (λ want. is_meek want ≡ true) (λ want. wants_other want ≡ true)
    (λ want. and_first (wants_other want) (is_harmless (question_of want))) (lacked_by state hand parts)
    (lacked_meek state hand parts none)

only_awaits : (awaits queues : Bool) → queues ≡ false → (awaits || queues) ≡ true → awaits ≡ true
only_awaits awaits queues none is = grind (arith, none, is)

pub queues_on : {state : State} (hand : Hand) → Binding state hand.parts hand.queue hand.asked
    → Binding state hand.parts (newly_lacked state hand) hand.asked
unfolding newly_lacked
queues_on {state} hand h = record {
  watches = h.watches;
  learnt = h.learnt;
  waits = λ is. by_first (looks_first hand.parts) refl is;
  ahead = h.ahead;
  listed = h.listed;
  noted = h.noted;
  bound = h.bound;
}
  where
    by_first : (first : Bool) → looks_first hand.parts ≡ first
        → (awaits_listing hand.asked || queues_listing (with_wants hand.asked [] (lacked_by state hand hand.parts)))
        ≡ true → first ≡ true
    by_first true front is = refl
    by_first false front is =
        let none = queued_more hand.asked [] (lacked_by state hand hand.parts)
        (lacked_other state hand hand.parts front) refl in
        let waits = only_awaits (awaits_listing hand.asked) _ none is in
        sym front ∙ h.waits (or_left (awaits_listing hand.asked) (queues_listing hand.queue) waits)

none_listing : (queue : List Want) → All (λ want. wants_other want ≡ true) queue → queues_listing queue ≡ false
none_listing [] h = refl
none_listing (want ∷ queue) h =
    rw (not-true (is_listing (question_of want)) h.0) (none_listing queue h.1)

-- what is to be asked is put anew
pub anew_on : {m : Machine} (hand : Hand) {queue : List Want} → MayQueue m hand queue
    → Binding m.state hand.parts hand.queue hand.asked → Binding m.state hand.parts queue hand.asked
anew_on {m} hand {queue} may h = record {
  watches = h.watches;
  learnt = h.learnt;
  waits = λ is. by_first (looks_first hand.parts) refl is;
  ahead = h.ahead;
  listed = h.listed;
  noted = h.noted;
  bound = h.bound;
}
  where
    by_first : (first : Bool) → looks_first hand.parts ≡ first
        → (awaits_listing hand.asked || queues_listing queue) ≡ true → first ≡ true
    by_first true front is = refl
    by_first false front is =
        let none = none_listing queue (all_to_ask (λ want. wants_other want ≡ true) may
        (lacked_other m.state hand hand.parts front)) in
        let waits = only_awaits (awaits_listing hand.asked) _ none is in
        sym front ∙ h.waits (or_left (awaits_listing hand.asked) (queues_listing hand.queue) waits)

-- a question goes
pub last_asked : (asked : List Sent) (want : Want)
    → (awaits_listing (asked ++ record { want = want; reply = None } ∷ [])
    ≡ (awaits_listing asked || is_listing (question_of want)))
    × (asks_listing (asked ++ record { want = want; reply = None } ∷ [])
    ≡ (asks_listing asked || is_listing (question_of want)))
    × (was_listed (asked ++ record { want = want; reply = None } ∷ []) ≡ was_listed asked)
last_asked [] want = (or_false (is_listing (question_of want)), or_false (is_listing (question_of want)), refl)
last_asked (sent ∷ asked) want = let (awaits, asks, listed) = last_asked asked want in (
  grind (arith, awaits),
  grind (arith, asks),
  ap (λ b. cond (is_some sent.reply) (is_listing (question_of sent.want)) false || b) listed,
)

pub learnt_last : (known : Known) (asked : List Sent) (want : Want) → All (IsLearnt known) asked
    → All (IsLearnt known) (asked ++ record { want = want; reply = None } ∷ [])
learnt_last known [] want h = (λ some fact. cc, tt)
learnt_last known (sent ∷ asked) want h = (h.0, learnt_last known asked want h.1)

pub asks_on : {state : State} {parts : List Part} {want : Want} {wants : List Want} {asked : List Sent}
    → Binding state parts (want ∷ wants) asked
    → Binding state parts wants (asked ++ record { want = want; reply = None } ∷ [])
asks_on {state} {parts} {want} {wants} {asked} h = record {
  watches = h.watches;
  learnt = learnt_last state.classes asked want h.learnt;
  waits = λ is. h.waits (by_tests (awaits_listing asked) (is_listing (question_of want)) (queues_listing wants)
      (ap (λ b. b || queues_listing wants) (sym (last_asked asked want).0) ∙ is));
  ahead = λ asks. by_ahead (asks_listing asked) refl (is_listing (question_of want)) refl
      (sym (last_asked asked want).1 ∙ asks);
  listed = λ is. (last_asked asked want).2 ∙ h.listed is;
  noted = h.noted;
  bound = h.bound;
}
  where
    by_tests : (awaits lists queues : Bool) → ((awaits || lists) || queues) ≡ true
        → (awaits || (lists || queues)) ≡ true
    by_tests awaits lists queues is = grind (arith, is)

    in_front : (parts : List Part) → looks_first parts ≡ true → looks_ahead parts ≡ looks_first parts
    in_front parts is = grind (arith, is)

    by_ahead : (asks : Bool) → asks_listing asked ≡ asks → (lists : Bool) → is_listing (question_of want) ≡ lists
        → (asks || lists) ≡ true → looks_ahead parts ≡ looks_first parts
    by_ahead true is lists told some = h.ahead is
    by_ahead false is true told some =
        in_front parts (h.waits (or_right (awaits_listing asked) _ (rw told refl)))
    by_ahead false is false told some = cc

-- What replies and notes keep of what binds breakpoints.
use Rattle.std.proofs.Common.{◌≡◌, ℕ, Bool, true, false, not, ◌||◌, List, [], ◌∷◌, ◌++◌, Option, Some, None, refl, sym}
use Rattle.std.proofs.Common.{ap, subst, ◌∙◌, arith, ◌⊎◌, inl, inr}
use Rattle.std.specs.List.{AllByRecursion as All}
use Rattle.class_tables.specs.Lookups.{found_in}
use Rattle.jdwp_commands.specs.declared.question.Question.TheVariants as questions
use Rattle.jdwp_values.specs.declared.id.ClassId.{ClassId}
use Rattle.machine_model.specs.Binding.{AreAllBound, sight_alone}
use Rattle.machine_model.specs.Classes.{known_plan}
use Rattle.machine_model.specs.Lookups.{classes_of, finished, found_for, written_parts}
use Rattle.machine_model.specs.Outcomes.{result_of}
use Rattle.machine_model.specs.Plans.{Need, answer_in, need, Result, gave, is_done}
use Rattle.machine_model.specs.Replying.{IsReply, done_by, filled, is_waiting, told_by, unless_failed}
use Rattle.machine_model.specs.Requests.{Wishes, wishes_after}
use Rattle.machine_model.specs.Rows.{written_by, chosen, leaves, news_of, noted, refused_with, stepped_by}
use Rattle.machine_model.specs.State.{Hand, State, is_some}
use Rattle.machine_model.specs.Stops.{hit_parts, surplus, told_part}
use Rattle.machine_steps.specs.Names.{Finding, Outcome, Written, variable_write, write_found, Choice, Classes, Decides}
use Rattle.machine_steps.specs.Names.{Judges, Strike}
use Rattle.machine_steps.specs.Names.{Effect, Leaves, Lines, Lookup, Note, Part, Question, Replied, Sent, Set}
use Rattle.machine_steps.specs.Names.{TellsNews, Want, an_effect, class_facts, Attached, Functions, Halt, Phase}
use Rattle.machine_steps.specs.Names.{Stepped, Steps, StopsAt, Thrown}
use Rattle.machine_laws.proofs.BindingFacts.{all_bound, fact_learnt, only_classes, same_known}
use Rattle.machine_laws.proofs.BindingGrows.{Grows, grows_itself, learnt_grows, learnt_loaded}
use Rattle.machine_laws.proofs.BindingHands.{asks_listing, asks_filled, awaited_is, awaits_listing, awaits_filled}
use Rattle.machine_laws.proofs.BindingHands.{binds_ahead, first_note, has_note, is_placed, learnt_filled, listed_asks}
use Rattle.machine_laws.proofs.BindingHands.{listed_filled, looks_ahead, looks_first, needs_none, needs_watches}
use Rattle.machine_laws.proofs.BindingHands.{notes_list, queues_listing, was_listed}
use Rattle.machine_laws.proofs.BindingPlans.{IsLearnt, is_fact, is_listing}
use Rattle.machine_steps.proofs.RequestLaws.{IsDue}
use Rattle.machine_steps.proofs.RequestSteps.{is_deed, learnt_wishes}
use Rattle.machine_steps.proofs.Tables.{decided_alike, judged_alike, of_decided, of_told, starts_updates, told_alike}
use Rattle.wish_sets.specs.Wanted.{Wanted, with_exceptions, with_known, with_step}
use Rattle.wish_sets.specs.declared.wish.Wish.TheVariants as wishes
use Rattle.machine_model.specs.Facts.{fact_known}
use Rattle.machine_laws.proofs.BindingWatches.{WatchesSet, due_unset, replied_set, known_set, classes_alike}
use Rattle.machine_laws.proofs.BindingWatches.{watch_alike}
use Rattle.machine_laws.proofs.BindingParts.{IsComplete, Binding, Same, as_before, still_bound, still_complete}
use Rattle.machine_laws.proofs.BindingParts.{still_binding, IsClear, quiet, none_ahead, note_had, placed_note, AreLike}
use Rattle.machine_laws.proofs.BindingParts.{are_same, goes_by, wanted_same, itself, found_complete, unlisted_waits}
use Rattle.std.proofs.lemmas.Bool.{not-true, or_left}
use Rattle.machine_laws.proofs.ReplyLaws.{wanted_replied}

-- Replies -------------------------------------------------------------------------------------------------------------

told_grows : (question : Question) (replied : Replied) (state : State)
    → Grows state.classes (told_by question replied state).classes
told_grows questions.IdSizes replied state = grows_itself state.classes
told_grows question replied state = learnt_grows question (answer_in replied) state.classes

told_loaded : (question : Question) (replied : Replied) (state : State) → is_listing question ≡ false
    → (told_by question replied state).classes.loaded ≡ state.classes.loaded
told_loaded questions.IdSizes replied state is = refl
told_loaded question replied state is = learnt_loaded question (answer_in replied) state.classes is

pub told_learnt : (question : Question) (replied : Replied) (state : State) → is_fact question ≡ true
    → is_some (fact_known (found_in (told_by question replied state).classes) question) ≡ true
told_learnt questions.IdSizes replied state is = cc
told_learnt question replied state is = fact_learnt question (answer_in replied) state.classes is

pub told_listed : (question : Question) (replied : Replied) (state : State) → is_listing question ≡ true
    → (told_by question replied state).unlisted ≡ false
told_listed question replied state is = grind (arith, is)

pub told_unlisted : (question : Question) (replied : Replied) (state : State) → is_listing question ≡ false
    → (told_by question replied state).unlisted ≡ state.unlisted
told_unlisted question replied state is = grind (arith, is)

-- but for a list of all classes, a reply tells no more than facts
pub other_reply : (question : Question) (replied : Replied) (state : State) → is_listing question ≡ false
    → Same (told_by question replied state) state
other_reply question replied state is = record {
  unlisted = told_unlisted question replied state is;
  wanted = wanted_same (told_by question replied state) state
      (ap (λ (w : Wishes). w.wanted) (learnt_wishes question replied state));
  loaded = told_loaded question replied state is;
  grows = told_grows question replied state;
}

pub fewer_queued : (failed : Bool) (queue : List Want) → queues_listing (unless_failed failed queue) ≡ true
    → queues_listing queue ≡ true
fewer_queued failed queue is = grind (arith, is)

pub either_more : (a b c d : Bool) → (a ≡ true → c ≡ true) → (b ≡ true → d ≡ true) → (a || b) ≡ true → (c || d) ≡ true
either_more a b c d one other is = grind (arith, one, other, is)

pub front_binds : (parts : List Part) → looks_first parts ≡ true → binds_ahead parts ≡ true
front_binds parts is = grind (arith, is)

pub front_noted : (parts : List Part) (classes : List ClassId) → looks_first parts ≡ true
    → ¬ (first_note parts ≡ Some classes)
front_noted [] classes is some = cc
front_noted (part ∷ parts) classes is some = absurd (let no : false ≡ true = grind (arith, is, some) in cc)

pub answers_on : {state : State} {parts : List Part} {queue : List Want} {asked : List Sent} (question : Question)
    (replied : Replied) (failed : Bool) → is_waiting question asked ≡ true → Binding state parts queue asked
    → Binding (told_by question replied state) parts (unless_failed failed queue) (filled question replied asked)
answers_on {state} {parts} {queue} {asked} question replied failed waits h = record {
  watches = λ needs. subst (λ (w : Wishes). WatchesSet w) (sym (learnt_wishes question replied state)) (h.watches needs);
  learnt = learnt_filled question replied state.classes (told_by question replied state).classes asked
      (told_grows question replied state) (told_learnt question replied state) h.learnt;
  waits = λ is. h.waits (either_more _ _ (awaits_listing asked) (queues_listing queue)
      (awaits_filled question replied asked) (fewer_queued failed queue) is);
  ahead = λ is. h.ahead (sym (asks_filled question replied asked) ∙ is);
  listed = λ is. by_listing (is_listing question) refl is;
  noted = λ classes some. noted_by (is_listing question) refl classes some;
  bound = λ is. bound_by (is_listing question) refl is;
}
  where
    front : is_listing question ≡ true → looks_first parts ≡ true
    front lists =
        h.waits (or_left (awaits_listing asked) (queues_listing queue) (awaited_is asked question waits lists))

    by_listing : (listing : Bool) → is_listing question ≡ listing → (told_by question replied state).unlisted ≡ true
        → was_listed (filled question replied asked) ≡ false
    by_listing true is unlisted =
        absurd (let no : false ≡ true = sym (told_listed question replied state is) ∙ unlisted in cc)
    by_listing false is unlisted =
        listed_filled question replied asked is ∙ h.listed (sym (told_unlisted question replied state is) ∙ unlisted)

    noted_by : (listing : Bool) → is_listing question ≡ listing → (classes : List ClassId)
        → first_note parts ≡ Some classes → IsComplete (told_by question replied state) classes
    noted_by true is classes some = absurd (front_noted parts classes (front is) some)
    noted_by false is classes some = still_complete (told_by question replied state) state classes
        (other_reply question replied state is) (h.noted classes some)

    bound_by : (listing : Bool) → is_listing question ≡ listing → binds_ahead parts ≡ false
        → AreAllBound (told_by question replied state)
    bound_by true is none = absurd (let no : true ≡ false = sym (front_binds parts (front is)) ∙ none in cc)
    bound_by false is none =
        still_bound (told_by question replied state) state (other_reply question replied state is) (h.bound none)

-- the reply to an effect leaves it, or a watch was set
pub unlisted_case : (effect : Effect) (replied : Replied) (state : State)
    → ((done_by effect replied state).unlisted ≡ state.unlisted)
    ⊎ ((path : List ℕ) × (effect ≡ Set (wishes.Watch path)))
unlisted_case (Set (wishes.Watch path)) replied state = inr (path, refl)
unlisted_case _ replied state = inl refl

pub ahead_binds : (parts : List Part) → looks_ahead parts ≡ true → binds_ahead parts ≡ true
ahead_binds [] is = cc
ahead_binds (part ∷ parts) is = grind (arith, is, ahead_binds parts)

pub updates_first : (parts : List Part) → starts_updates parts ≡ true → needs_watches parts ≡ false
    → (looks_ahead parts ≡ true) × (looks_first parts ≡ false)
updates_first [] starts needs = cc
updates_first (part ∷ parts) starts needs = (grind (arith, starts, needs), grind (arith, starts))

pub updates_noted : (parts : List Part) (classes : List ClassId) → starts_updates parts ≡ true
    → ¬ (first_note parts ≡ Some classes)
updates_noted [] classes is some = cc
updates_noted (part ∷ parts) classes is some = absurd (let no : false ≡ true = grind (arith, is, some) in cc)

pub replies_on : {state : State} {parts : List Part} {queue : List Want} {asked : List Sent} (effect : Effect)
    (replied : Replied) → IsDue state.wishes parts (Some effect) → IsReply state.sizes (an_effect effect) replied
    → Binding state parts queue asked → Binding (done_by effect replied state) parts queue asked
replies_on {state} {parts} {queue} {asked} effect replied due reply h = by_case (unlisted_case effect replied state)
  where
    sets : WatchesSet state.wishes → WatchesSet (wishes_after effect replied state.wishes)
    sets = replied_set state.sizes state.wishes parts effect replied due reply (wanted_replied effect replied state.wishes)

    needs_none : (path : List ℕ) → effect ≡ Set (wishes.Watch path) → (needs : Bool) → needs_watches parts ≡ needs
        → needs ≡ false
    needs_none path is true needs = absurd (due_unset state.wishes path (h.watches needs)
        ((due (ap is_deed is)).0 ∙ ap Some is))
    needs_none path is false needs = refl

    by_case : ((done_by effect replied state).unlisted ≡ state.unlisted)
        ⊎ ((path : List ℕ) × (effect ≡ Set (wishes.Watch path)))
        → Binding (done_by effect replied state) parts queue asked
    by_case (inl same) = still_binding (done_by effect replied state)
        (as_before (done_by effect replied state) state same (wanted_replied effect replied state.wishes) refl)
        (λ needs w. sets w) h
    by_case (inr (path, is)) =
        let starts = (due (ap is_deed is)).1 in
        let needs = needs_none path is (needs_watches parts) refl in
        let (ahead, first) = updates_first parts starts needs in
        let none : asks_listing asked ≡ false = by_asks (asks_listing asked) refl ahead first in
        record {
          watches = λ so. sets (h.watches so);
          learnt = h.learnt;
          waits = h.waits;
          ahead = h.ahead;
          listed = λ unlisted. by_listed (was_listed asked) refl none;
          noted = λ classes some. absurd (updates_noted parts classes starts some);
          bound = λ none_ahead. absurd (let no : true ≡ false = sym (ahead_binds parts ahead) ∙ none_ahead in cc);
        }
      where
        by_asks : (asks : Bool) → asks_listing asked ≡ asks → looks_ahead parts ≡ true → looks_first parts ≡ false
            → asks ≡ false
        by_asks true is ahead first = absurd (let no : true ≡ false = sym ahead ∙ h.ahead is ∙ first in cc)
        by_asks false is ahead first = refl

        by_listed : (listed : Bool) → was_listed asked ≡ listed → asks_listing asked ≡ false → listed ≡ false
        by_listed true is none = absurd (let no : true ≡ false = sym (listed_asks asked is) ∙ none in cc)
        by_listed false is none = refl

-- Parts that become others --------------------------------------------------------------------------------------------

none_behind : (rest : List Part) → is_placed rest ≡ true → not (looks_ahead rest) ≡ true → needs_watches rest ≡ true
none_behind rest is none = needs_none rest is (not-true (looks_ahead rest) none)

-- the parts of a hit need the watches to be set only where nothing is looked up behind them
hit_needs : (stopped : Bool) (thrown : List Thrown) (stops : List Strike) (halt : Halt) (rest : List Part)
    → is_placed rest ≡ true → needs_watches (hit_parts stopped thrown stops halt ++ rest) ≡ true
    → needs_watches rest ≡ true
hit_needs stopped thrown stops halt rest is needs =
    none_behind rest is (ap not (sym (ahead stopped halt)) ∙ needs)
  where
    by_surplus : (stopped : Bool) → looks_ahead (surplus stopped ++ rest) ≡ looks_ahead rest
    by_surplus stopped = grind arith

    ahead : (stopped : Bool) (halt : Halt)
        → looks_ahead (told_part stops halt.cause halt.thread ∷ surplus stopped ++ rest) ≡ looks_ahead rest
    ahead stopped halt = of_told (λ (part : Part). looks_ahead (part ∷ surplus stopped ++ rest) ≡ looks_ahead rest)
        (λ stopping. by_surplus stopped) (λ thread object. by_surplus stopped) stops halt

pub chosen_like : (choice : Choice) (state : State) (hand : Hand) (rest : List Part) → is_placed rest ≡ true
    → AreLike (chosen choice state hand ++ rest) rest
chosen_like (TellsNews below) state hand rest is =
    let news = news_of below state hand.item in record {
      ahead = told_alike looks_ahead (λ news parts. refl) state.phase news rest;
      needs = λ needs. sym (told_alike needs_watches (λ news parts. refl) state.phase news rest) ∙ needs;
      notes = told_alike has_note (λ news parts. refl) state.phase news rest;
      binds = told_alike binds_ahead (λ news parts. refl) state.phase news rest;
    }
chosen_like Judges state hand rest is = record {
  ahead = judged_alike looks_ahead (λ strikes parts. refl) state hand.item rest;
  needs = λ needs. sym (judged_alike needs_watches (λ strikes parts. refl) state hand.item rest) ∙ needs;
  notes = judged_alike has_note (λ strikes parts. refl) state hand.item rest;
  binds = judged_alike binds_ahead (λ strikes parts. refl) state hand.item rest;
}
chosen_like (Decides logged stops) state hand rest is = record {
  ahead = decided_alike looks_ahead (λ thrown parts. refl) (λ stopping parts. refl) (λ thread object parts. refl)
      (λ parts. refl) (λ parts. refl) (λ text texts strikes parts. refl) state logged stops hand.item rest;
  needs = of_decided (λ (parts : List Part). needs_watches (parts ++ rest) ≡ true → needs_watches rest ≡ true)
      (λ needs. needs) (λ needs. needs) (λ needs. needs)
      (λ stopped thrown stops halt. hit_needs stopped thrown stops halt rest is) (λ text texts stops needs. needs) state
      logged stops hand.item;
  notes = decided_alike has_note (λ thrown parts. refl) (λ stopping parts. refl) (λ thread object parts. refl)
      (λ parts. refl) (λ parts. refl) (λ text texts strikes parts. refl) state logged stops hand.item rest;
  binds = decided_alike binds_ahead (λ thrown parts. refl) (λ stopping parts. refl) (λ thread object parts. refl)
      (λ parts. refl) (λ parts. refl) (λ text texts strikes parts. refl) state logged stops hand.item rest;
}
chosen_like Stepped state hand rest is = by_code (refused_with hand.effect)
  where
    by_code : (code : Option ℕ) → AreLike (stepped_by code ++ rest) rest
    by_code None = record { ahead = refl; needs = λ needs. needs; notes = refl; binds = refl }
    by_code (Some code) = record { ahead = refl; needs = none_behind rest is; notes = refl; binds = refl }
chosen_like (Written seen) state hand rest is = by_code (refused_with hand.effect)
  where
    by_code : (code : Option ℕ) → AreLike (written_by seen code ++ rest) rest
    by_code None = record { ahead = refl; needs = λ needs. needs; notes = refl; binds = refl }
    by_code (Some code) = record { ahead = refl; needs = λ needs. needs; notes = refl; binds = refl }
chosen_like (Leaves exits) state hand rest is = by_phase state.phase
  where
    by_phase : (phase : Phase) → AreLike (leaves phase exits ++ rest) rest
    by_phase Attached = record { ahead = refl; needs = λ needs. needs; notes = refl; binds = refl }
    by_phase _ = are_same rest

-- behind a note of a list stands what binds it
pub list_behind : (part : Part) (rest : List Part) → notes_list part ≡ true → is_placed (part ∷ rest) ≡ true
    → (needs_watches rest ≡ false) × (binds_ahead rest ≡ true) × (has_note rest ≡ false)
list_behind part rest lists is = (grind (arith, lists, is), grind (arith, lists, is), grind (arith, lists, is))

pub looks_once : (rest : List Part) → is_placed (Part.Looks class_facts ∷ rest) ≡ true → looks_ahead rest ≡ false
looks_once rest is = grind (arith, is)

pub none_noted : (parts : List Part) (classes : List ClassId) → has_note parts ≡ false → ¬ (first_note parts ≡ Some classes)
none_noted parts classes none some = let no : true ≡ false = sym (note_had parts classes some) ∙ none in cc

-- a list is replaced, and what is known of classes stays
pub lists_on : {state : State} {queue : List Want} {asked : List Sent} (next : State) (part : Part) (rest : List Part)
    → notes_list part ≡ true → next.classes ≡ state.classes → next.unlisted ≡ state.unlisted → IsClear queue asked
    → is_placed (part ∷ rest) ≡ true → looks_ahead (part ∷ rest) ≡ looks_ahead rest
    → looks_first (part ∷ rest) ≡ false → Binding state (part ∷ rest) queue asked → Binding next rest queue asked
lists_on {asked = asked} next part rest lists classes unlisted c is ahead first h =
    let (needs, binds, none) = list_behind part rest lists is in record {
      watches = λ so. absurd (let no : false ≡ true = sym needs ∙ so in cc);
      learnt = subst (λ known. All (IsLearnt known) asked) (sym classes) h.learnt;
      waits = λ so. quiet c so;
      ahead = λ asks. let none_is : looks_ahead rest ≡ false = sym ahead ∙ h.ahead asks ∙ first in
          none_is ∙ sym (none_ahead rest none_is);
      listed = λ so. h.listed (sym unlisted ∙ so);
      noted = λ those some. absurd (none_noted rest those none some);
      bound = λ so. absurd (let no : true ≡ false = sym binds ∙ so in cc);
    }

pub classes_on : {state : State} {queue : List Want} {asked : List Sent} (classes : List ClassId) (rest : List Part)
    → IsClear queue asked → is_placed (Part.Notes (Classes classes) ∷ rest) ≡ true
    → Binding state (Part.Notes (Classes classes) ∷ rest) queue asked
    → Binding (noted (Classes classes) state) rest queue asked
classes_on {state} classes rest c is h = record {
  watches = λ needs. known_set state.wishes (with_known (found_in state.classes) classes state.wishes.wanted)
      (classes_alike state.classes classes state.wishes.wanted) (h.watches needs);
  learnt = h.learnt;
  waits = λ so. quiet c so;
  ahead = λ asks. let ahead : looks_ahead rest ≡ false = h.ahead asks in ahead ∙ sym (none_ahead rest ahead);
  listed = h.listed;
  noted = λ others some. absurd (none_noted rest others (placed_note (Part.Notes (Classes classes)) rest is) some);
  bound = λ so. let complete = h.noted classes refl in record {
    listed = complete.0;
    found = classes;
    none_lacking =
        ap (λ (wanted : Wanted). need (sight_alone state.classes) (known_plan wanted (found_in state.classes)))
        (only_classes (found_in state.classes) classes state.wishes.wanted)
        ∙ same_known (sight_alone state.classes) state.wishes.wanted
        (with_known (found_in state.classes) classes state.wishes.wanted).classes state.wishes.wanted.step
        state.wishes.wanted.caught state.wishes.wanted.uncaught (found_in state.classes)
        ∙ complete.1;
    bound = all_bound state.classes classes state.wishes.wanted;
  };
}

pub notes_on : {state : State} {queue : List Want} {asked : List Sent} (note : Note) (rest : List Part)
    → IsClear queue asked → is_placed (Part.Notes note ∷ rest) ≡ true
    → Binding state (Part.Notes note ∷ rest) queue asked → Binding (noted note state) rest queue asked
notes_on {state} (StopsAt caught uncaught) rest c is h =
    goes_by (noted (StopsAt caught uncaught) state) (Part.Notes (StopsAt caught uncaught)) rest rest
    (record { unlisted = refl; wanted = refl; loaded = refl; grows = grows_itself state.classes }) c refl is
    (are_same rest) (λ needs w. known_set state.wishes (with_exceptions caught uncaught state.wishes.wanted)
    (watch_alike state.wishes.wanted.classes state.wishes.wanted.step caught uncaught state.wishes.wanted) (w needs)) h
notes_on {state} (Steps step) rest c is h =
    goes_by (noted (Steps step) state) (Part.Notes (Steps step)) rest rest
    (record { unlisted = refl; wanted = refl; loaded = refl; grows = grows_itself state.classes }) c refl is
    (are_same rest) (λ needs w. known_set state.wishes (with_step step state.wishes.wanted)
    (watch_alike state.wishes.wanted.classes step state.wishes.wanted.caught state.wishes.wanted.uncaught
    state.wishes.wanted) (w needs)) h
notes_on {state} (Lines key path entries) rest c is h =
    lists_on (noted (Lines key path entries) state) (Part.Notes (Lines key path entries)) rest refl refl refl c is refl
    refl h
notes_on {state} (Functions entries) rest c is h =
    lists_on (noted (Functions entries) state) (Part.Notes (Functions entries)) rest refl refl refl c is refl refl h
notes_on (Classes classes) rest c is h = classes_on classes rest c is h
notes_on {state} note rest c is h =
    goes_by (noted note state) (Part.Notes note) rest rest (as_before (noted note state) state refl refl refl) c refl is
    (are_same rest) (λ needs w. w needs) h

-- a look-up that is done
pub finds_on : {state : State} (hand : Hand) (lookup : Lookup) (found : Need Finding) (rest : List Part)
    → IsClear hand.queue hand.asked → is_placed (Part.Looks lookup ∷ rest) ≡ true
    → found_for lookup state hand ≡ found → is_done found ≡ true
    → Binding state (Part.Looks lookup ∷ rest) hand.queue hand.asked
    → Binding state (finished lookup (result_of found) state ++ rest) hand.queue hand.asked
finds_on {state} hand (variable_write thing name text) found rest c is needs done h = by_result (result_of found)
  where
    goes : (parts : List Part) → AreLike (parts ++ rest) rest → Binding state (parts ++ rest) hand.queue hand.asked
    goes parts like = goes_by state (Part.Looks (variable_write thing name text)) rest (parts ++ rest) (itself state) c
        refl is like (λ so w. w so) h

    same : (outcome : Outcome) → AreLike (Part.Responds outcome ∷ rest) rest
    same outcome = record { ahead = refl; needs = λ so. so; notes = refl; binds = refl }

    by_result : (result : Result Finding) → Binding state (written_parts result ++ rest) hand.queue hand.asked
    by_result (gave (write_found write seen)) = goes (written_parts (gave (write_found write seen)))
        (record { ahead = refl; needs = λ so. so; notes = refl; binds = refl })
    by_result result = goes (written_parts result) (same _)
finds_on {state} hand class_facts found rest c is needs done h = record {
  watches = λ so. h.watches refl;
  learnt = h.learnt;
  waits = λ so. quiet c so;
  ahead = λ asks. looks_once rest is;
  listed = h.listed;
  noted = λ classes some. subst (IsComplete state) (same classes some) (complete state.unlisted refl);
  bound = λ none. cc;
}
  where
    same : (classes : List ClassId) → Some (classes_of (result_of found)) ≡ Some classes
        → classes_of (result_of found) ≡ classes
    same classes some = cc

    complete : (unlisted : Bool) → state.unlisted ≡ unlisted → IsComplete state (classes_of (result_of found))
    complete true unlisted =
        absurd (let no : false ≡ true = sym (unlisted_waits state hand unlisted (h.listed unlisted))
        ∙ ap is_done needs ∙ done in cc)
    complete false listed = found_complete state hand found listed h.learnt needs done
finds_on {state} hand lookup found rest c is needs done h =
    goes_by state (Part.Looks lookup) rest (finished lookup (result_of found) state ++ rest) (itself state) c refl is
    (record { ahead = refl; needs = λ so. so; notes = refl; binds = refl }) (λ so w. w so) h

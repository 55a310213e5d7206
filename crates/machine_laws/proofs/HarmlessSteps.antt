-- No step of null is set: what is wanted has none, since no part writes one down.
use Rattle.std.proofs.Common.{◌≡◌, ◌==◌, ◌||◌, ℕ, Bool, true, false, cond, List, [], ◌∷◌, ◌++◌, Option, Some, None}
use Rattle.std.proofs.Common.{refl, sym, ap, subst, ◌∙◌, arith}
use Rattle.std.specs.List.{AllByRecursion as All}
use Rattle.std.specs.Prelude.{map, option_and_then}
use Rattle.class_tables.specs.Lookups.{found_in}
use Rattle.machine_model.specs.Harmless.{is_harmless_effect, is_harmless_wish, is_there}
use Rattle.machine_model.specs.Requests.{Wishes, effect_due}
use Rattle.machine_model.specs.Rows.{chosen, failure_of, news_of, noted, parts_by, parts_of, refused_with, row_of}
use Rattle.machine_model.specs.Rows.{step_parts, stepped_by, thread_there, thread_with, wanting}
use Rattle.machine_model.specs.Runs.{Message, Run}
use Rattle.machine_model.specs.State.{Hand, Machine, State}
use Rattle.machine_model.proofs.IdRows.{all_joined}
use Rattle.machine_steps.specs.Names.{Choice, Classes, Command, Decides, Effect, Failure, Item, Next, Note, Part, Set}
use Rattle.machine_steps.specs.Names.{Judges}
use Rattle.machine_steps.specs.Names.{StepIn, StepOut, Stepped, Steps, TargetCommand, TellsNews, ThreadId, a_raw, Lines}
use Rattle.machine_steps.specs.Names.{a_request, an_effect}
use Rattle.machine_laws.proofs.BindingFacts.{only_classes}
use Rattle.machine_laws.proofs.BindingWatches.{or_false, without_mid}
use Rattle.machine_steps.proofs.RequestSteps.{learnt_wishes, numbered_wishes, told_wishes}
use Rattle.machine_steps.proofs.Stepping.{Loses, Moves, by_moves, with_said}
use Rattle.machine_steps.proofs.Tables.{decided_alike, judged_alike, told_alike}
use Rattle.machine_steps.proofs.Testing.{IsTest, Passed, passed_on, whole}
use Rattle.machine_steps.proofs.WishLemmas.{new_set_due}
use Rattle.wish_sets.proofs.WishLaws.{equal_is, wished_has}
use Rattle.wish_sets.specs.Order.{has_wish}
use Rattle.wish_sets.specs.Places.{places}
use Rattle.wish_sets.specs.Wanted.{Wanted}
use Rattle.wish_sets.specs.Wished.{stepping, stops, thrown, watched, wished}
use Rattle.wish_sets.specs.declared.place.Place.{Place}
use Rattle.wish_sets.specs.declared.wish.Depth.{Depth}
use Rattle.wish_sets.specs.declared.wish.Depth.TheVariants.{Into, Out, Over}
use Rattle.wish_sets.specs.declared.wish.StepWish.{StepWish}
use Rattle.wish_sets.specs.declared.wish.Wish.{Wish}
use Rattle.wish_sets.specs.declared.wish.Wish.TheVariants as wishes
use Rattle.machine_laws.proofs.ReplyLaws.{wanted_replied}

-- Parts ---------------------------------------------------------------------------------------------------------------

-- a step is one of a thread
abbrev has_thread : Option StepWish → Bool
has_thread None = true
has_thread (Some step) = is_there step.thread.0

abbrev is_threaded : Part → Bool
is_threaded (Part.Notes (Steps step)) = has_thread step
is_threaded _ = true

abbrev are_threaded : List Part → Bool
are_threaded [] = true
are_threaded (part ∷ parts) = cond (is_threaded part) (are_threaded parts) false

abbrev threaded : Bool → List Part → Bool
threaded gone parts = are_threaded parts

step_threaded : (depth : Depth) (found : Option ThreadId)
    → are_threaded (step_parts depth (option_and_then thread_there found)) ≡ true
step_threaded depth None = refl
step_threaded depth (Some thread) = by_test (thread.0 == 0) refl
  where
    other_there : (id : ℕ) → (id == 0) ≡ false → is_there id ≡ true
    other_there id is = grind (arith, is)

    by_test : (none : Bool) → (thread.0 == 0) ≡ none
        → are_threaded (step_parts depth (cond none None (Some thread))) ≡ true
    by_test true is = refl
    by_test false is = rw (other_there thread.0 is) refl

row_threaded : (failure : Option Failure) (command : Command) (state : State)
    → are_threaded (parts_by failure (row_of command state)) ≡ true
row_threaded (Some failure) command state = refl
row_threaded None (Next arguments) state = step_threaded Over (thread_with state.threads arguments.thread_id)
row_threaded None (StepIn arguments) state = step_threaded Into (thread_with state.threads arguments.thread_id)
row_threaded None (StepOut arguments) state = step_threaded Out (thread_with state.threads arguments.thread_id)
row_threaded None _ state = grind arith

begun_threaded : (state : State) (item : Item) → are_threaded (parts_of state item) ≡ true
begun_threaded state (a_request request) =
    row_threaded (failure_of (wanting request.command) state) request.command state
begun_threaded state (a_raw at body) = refl
begun_threaded state _ = grind arith

chosen_threaded : (choice : Choice) (state : State) (hand : Hand) (rest : List Part) → are_threaded rest ≡ true
    → are_threaded (chosen choice state hand ++ rest) ≡ true
chosen_threaded (TellsNews below) state hand rest is =
    told_alike are_threaded (λ news parts. refl) state.phase (news_of below state hand.item) rest ∙ is
chosen_threaded Judges state hand rest is =
    judged_alike are_threaded (λ strikes parts. refl) state hand.item rest ∙ is
chosen_threaded (Decides logged stops) state hand rest is =
    decided_alike are_threaded (λ thrown parts. refl) (λ stopping parts. refl) (λ thread object parts. refl)
    (λ parts. refl) (λ parts. refl) (λ text texts strikes parts. refl) state logged stops hand.item rest ∙ is
chosen_threaded Stepped state hand rest is = by_code (refused_with hand.effect)
  where
    by_code : (code : Option ℕ) → are_threaded (stepped_by code ++ rest) ≡ true
    by_code code = grind arith
chosen_threaded _ state hand rest is = grind (arith, is)

threaded_test : IsTest threaded
threaded_test = record {
  none = λ gone. refl;
  tail = λ gone part rest is. grind (arith, is);
  begins = begun_threaded;
  unfolds = λ choice state hand rest is. chosen_threaded choice state hand rest is;
  finds = λ lookup result state rest is. grind (arith, is);
  gives_up = λ responds item. grind arith;
}

-- What is due ---------------------------------------------------------------------------------------------------------

module _ (thread : ThreadId) (depth : Depth) where
  abbrev it : Wish
  it = wishes.Step thread depth

  no_watch : (names : List (List ℕ)) → has_wish (map wishes.Watch names) it ≡ false
  no_watch [] = refl
  no_watch (name ∷ names) = no_watch names

  no_stop : (those : List Place) → has_wish (map (λ (place : Place). wishes.Stop place.at) those) it ≡ false
  no_stop [] = refl
  no_stop (place ∷ those) = no_stop those

  no_thrown : (caught uncaught : Bool) → has_wish (thrown caught uncaught) it ≡ false
  no_thrown caught uncaught = grind arith

  abbrev first : Wanted → List Wish
  first wanted = wishes.ThreadStart ∷ wishes.ThreadDeath ∷ map wishes.Watch (watched wanted)

  only_step : (wanted : Wanted) → has_wish (wished wanted) it ≡ has_wish (stepping wanted.step) it
  only_step wanted =
      wished_has wanted it
      ∙ without_mid it (first wanted) (stops wanted) (thrown wanted.caught wanted.uncaught) (stepping wanted.step)
      (no_stop (places wanted))
      ∙ ap (λ b. (b || has_wish (thrown wanted.caught wanted.uncaught) it) || has_wish (stepping wanted.step) it)
      (no_watch (watched wanted))
      ∙ ap (λ b. b || has_wish (stepping wanted.step) it) (no_thrown wanted.caught wanted.uncaught)

  step_there : (step : Option StepWish) → has_thread step ≡ true → has_wish (stepping step) it ≡ true
      → is_there thread.0 ≡ true
  step_there None there has = cc
  step_there (Some step) there has =
      let same = equal_is it (wishes.Step step.thread step.depth) (sym (or_false _) ∙ has) in
      let one : step.thread ≡ thread = cc in subst (λ (thread : ThreadId). is_there thread.0 ≡ true) one there

due_harmless : (w : Wishes) (effect : Effect) → has_thread w.wanted.step ≡ true → effect_due w ≡ Some effect
    → is_harmless_effect effect ≡ true
due_harmless w (Set wish) there due = by_wish wish (new_set_due w wish due).is_wished
  where
    by_wish : (wish : Wish) → has_wish (wished w.wanted) wish ≡ true → is_harmless_wish wish ≡ true
    by_wish (wishes.Step thread depth) has =
        step_there thread depth w.wanted.step there (sym (only_step thread depth w.wanted) ∙ has)
    by_wish _ has = refl
due_harmless w _ there due = refl

-- Moves ---------------------------------------------------------------------------------------------------------------

-- an effect that is sent
abbrev sends_well : Message → Bool
sends_well (Message.sends (an_effect effect)) = is_harmless_effect effect
sends_well _ = true

abbrev said_well : Option Message → Bool
said_well None = true
said_well (Some message) = sends_well message

record AreThreaded (messages : List Message) (m : Machine) : Type 0 where
  well : All (λ message. sends_well message ≡ true) messages
  there : has_thread m.state.wishes.wanted.step ≡ true
  passed : Passed threaded m

well_on : (messages : List Message) (said : Option Message) → said_well said ≡ true
    → All (λ message. sends_well message ≡ true) messages
    → All (λ message. sends_well message ≡ true) (with_said messages said)
well_on messages None is h = h
well_on messages (Some message) is h =
    all_joined (λ message. sends_well message ≡ true) messages (message ∷ []) h (is, tt)

said_on : (m next : Machine) (said : Option Message) → has_thread m.state.wishes.wanted.step ≡ true
    → Moves m said next → said_well said ≡ true
said_on m next said there (Moves.updates {effect = effect} free at is away) =
    due_harmless m.state.wishes effect there is
said_on m next said there (Moves.loses late away why) = by_loss why
  where
    by_loss : {message : Message} {late : List TargetCommand} → Loses m message late → sends_well message ≡ true
    by_loss why = grind (arith, why)
said_on m next said there _ = refl

noted_thread : (note : Note) (state : State) → has_thread state.wishes.wanted.step ≡ true
    → is_threaded (Part.Notes note) ≡ true → has_thread (noted note state).wishes.wanted.step ≡ true
noted_thread (Steps step) state there is = is
noted_thread (Lines None path entries) state there is = there
noted_thread (Lines (Some key) path entries) state there is = there
noted_thread (Classes classes) state there is =
    ap (λ (wanted : Wanted). has_thread wanted.step)
    (only_classes (found_in state.classes) classes state.wishes.wanted) ∙ there
noted_thread _ state there is = there

front_threaded : (part : Part) (rest : List Part) → are_threaded (part ∷ rest) ≡ true → is_threaded part ≡ true
front_threaded part rest is = by_test (is_threaded part) is
  where
    by_test : (b : Bool) → cond b (are_threaded rest) false ≡ true → b ≡ true
    by_test b is = grind (arith, is)

there_on : (m next : Machine) (said : Option Message) → has_thread m.state.wishes.wanted.step ≡ true
    → Passed threaded m → Moves m said next → has_thread next.state.wishes.wanted.step ≡ true
there_on m next said there p (Moves.responds {outcome = outcome} free at is) =
    ap (λ (w : Wishes). has_thread w.wanted.step) (numbered_wishes outcome m.state) ∙ there
there_on m next said there p (Moves.tells {event = event} free at) =
    ap (λ (w : Wishes). has_thread w.wanted.step) (told_wishes event m.state) ∙ there
there_on m next said there p (Moves.notes {note = note} {rest = rest} free at) =
    noted_thread note m.state there (front_threaded (Part.Notes note) rest (whole threaded p at))
there_on m next said there p (Moves.answers {question} {replied} is waits reply stays) =
    ap (λ (w : Wishes). has_thread w.wanted.step) (learnt_wishes question replied m.state) ∙ there
there_on m next said there p (Moves.replies {effect} {replied} is flying reply stays) =
    ap (λ (wanted : Wanted). has_thread wanted.step) (wanted_replied effect replied m.state.wishes) ∙ there
there_on m next said there p _ = there

are_threaded_all : {messages : List Message} {m : Machine} → Run messages m → AreThreaded messages m
are_threaded_all r = by_moves {Holds = AreThreaded} (record {
  starts = record { well = tt; there = refl; passed = refl };
  moves = λ messages m next said h moved. record {
    well = well_on messages said (said_on m next said h.there moved) h.well;
    there = there_on m next said h.there h.passed moved;
    passed = passed_on threaded_test m next said h.passed moved;
  };
  queues = λ messages m hand queue may h. record { well = h.well; there = h.there; passed = h.passed };
}) r

one_well : (before after : List Message) (message : Message)
    → All (λ message. sends_well message ≡ true) (before ++ message ∷ after) → sends_well message ≡ true
one_well [] after message h = h.0
one_well (first ∷ before) after message h = one_well before after message h.1

-- each effect that was sent
pub effects_harmless : (messages before after : List Message) (m : Machine) (effect : Effect) → Run messages m
    → messages ≡ before ++ Message.sends (an_effect effect) ∷ after → is_harmless_effect effect ≡ true
effects_harmless messages before after m effect r is =
    one_well before after (Message.sends (an_effect effect))
    (subst (λ (messages : List Message). All (λ message. sends_well message ≡ true) messages) is
    (are_threaded_all r).well)

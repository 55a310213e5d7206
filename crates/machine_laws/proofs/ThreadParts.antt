-- What an item is still to tell of threads: what its composite told of them, as far as it isn't told yet.
use Rattle.std.proofs.Common.{◌≡◌, ℕ, Bool, true, false, cond, List, [], ◌∷◌, ◌++◌, Option, Some, None, refl, sym, ap}
use Rattle.std.proofs.Common.{◌∙◌, append-nil, append_assoc, option_map, arith}
use Rattle.std.specs.List.{flat_map}
use Rattle.std.specs.Prelude.{map}
use Rattle.jdwp_events.specs.declared.event.Event.{Event as ATargetEvent}
use Rattle.jdwp_events.specs.declared.event.Event.TheVariants as happened
use Rattle.jdwp_events.specs.declared.kind.Policy.{Policy}
use Rattle.jdwp_events.specs.declared.kind.Policy.TheVariants.{NoThread, EventThread, All}
use Rattle.machine_model.specs.Breakpoints.{newly_verified}
use Rattle.machine_model.specs.Composites.{change_told, changes_in as news_in, events_row, has_death}
use Rattle.machine_model.specs.Due.{asked_hand}
use Rattle.machine_model.specs.Knowing.{composite_in}
use Rattle.machine_model.specs.Lookups.{finished}
use Rattle.machine_model.specs.Plans.{Result}
use Rattle.machine_model.specs.Replying.{given_up, hand_replied}
use Rattle.machine_model.specs.Rows.{chosen, each_told, end_parts, failure_of, gone_parts, has_response, leaves}
use Rattle.machine_model.specs.Rows.{news_of, parts_by, parts_of, refused_with, row_of, stepped_by, told_in, wanting}
use Rattle.machine_model.specs.Rows.{written_by}
use Rattle.machine_model.specs.State.{Hand, Machine, State}
use Rattle.machine_steps.specs.Names.{Attached, Choice, Command, Composite, Decides, Failure, Finding, Fresh, Gone}
use Rattle.machine_steps.specs.Names.{Judges}
use Rattle.machine_steps.specs.Names.{Item}
use Rattle.machine_steps.specs.Names.{Leaves, Lookup, News, Part, Phase, Replied, Stepped, TargetCommand, TellsNews}
use Rattle.machine_steps.specs.Names.{Terminated, Want, Written, a_composite, a_question, a_raw, a_request, an_effect}
use Rattle.machine_steps.specs.Names.{entry_verified, some_news, target_end, thread_changed, variable_write}
use Rattle.machine_laws.specs.ThreadEvents.{Change, changes_by, changes_in}
use Rattle.machine_steps.proofs.PartTests.{passes}
use Rattle.machine_steps.proofs.Stepping.{Skips}
use Rattle.machine_steps.proofs.Tables.{decided_alike, judged_alike}

-- What is left to tell ------------------------------------------------------------------------------------------------

abbrev pub item_changes : Item → List Change
item_changes (a_request request) = []
item_changes (a_composite at composite) = changes_in composite
item_changes (a_raw at body) = []
item_changes target_end = []

-- what is not told where the target has ended, or the session is over, is left, too
abbrev pub part_left : Item → Part → List Change
part_left item (Part.Tells (some_news (thread_changed started thread))) =
    record { started = started; thread = thread } ∷ []
part_left item (Part.Tells Terminated) = item_changes item
part_left item (Part.Unfolds (TellsNews below)) = item_changes item
part_left item (Part.Ends finish) = item_changes item
part_left item _ = []

abbrev pub left_in : Item → List Part → List Change
left_in item [] = []
left_in item (part ∷ parts) = part_left item part ++ left_in item parts

abbrev pub hand_left : Option Hand → List Change
hand_left None = []
hand_left (Some hand) = left_in hand.item hand.parts

-- and with it what waits
abbrev pub left_of : Machine → List Change
left_of m = hand_left m.hand ++ flat_map changes_in (flat_map composite_in m.waiting)

-- what is left to tell is the last of what the composite told
pub record IsLast (all left : List Change) : Type 0 where
  pub done : List Change
  pub is : all ≡ done ++ left

abbrev pub HandLast : Option Hand → Type 0
HandLast None = Unit {0}
HandLast (Some hand) = IsLast (item_changes hand.item) (left_in hand.item hand.parts)

pub none_left : (all left : List Change) → left ≡ [] → IsLast all left
none_left all left is =
    record { done = all; is = sym (append-nil all) ∙ ap (λ (left : List Change). all ++ left) (sym is) }

pub all_left : (all left : List Change) → left ≡ all → IsLast all left
all_left all left is = record { done = []; is = sym is }

-- some of it is told, or dropped
pub fewer_left : (all some left : List Change) → IsLast all (some ++ left) → IsLast all left
fewer_left all some left h = record { done = h.done ++ some; is = h.is ∙ sym (append_assoc h.done some left) }

-- The tables ----------------------------------------------------------------------------------------------------------

-- a part of a request or of the target's end tells of no thread
abbrev tells_none : Part → Bool
tells_none (Part.Tells (some_news (thread_changed started thread))) = false
tells_none _ = true

part_none : (item : Item) (part : Part) → item_changes item ≡ [] → tells_none part ≡ true → part_left item part ≡ []
part_none item (Part.Tells (some_news (thread_changed started thread))) none is = cc
part_none item (Part.Tells Terminated) none is = none
part_none item (Part.Unfolds (TellsNews below)) none is = none
part_none item (Part.Ends finish) none is = none
part_none item _ none is = refl

tells_nothing : (item : Item) (parts : List Part) → item_changes item ≡ [] → passes tells_none parts ≡ true
    → left_in item parts ≡ []
tells_nothing item [] none is = refl
tells_nothing item (part ∷ parts) none is = by_test (tells_none part) refl is (tells_nothing item parts none)
  where
    by_test : (first : Bool) → tells_none part ≡ first → cond first (passes tells_none parts) false ≡ true
        → (passes tells_none parts ≡ true → left_in item parts ≡ [])
        → part_left item part ++ left_in item parts ≡ []
    by_test true one is others = rw (part_none item part none one) (others is)
    by_test false one is others = cc

row_none : (failure : Option Failure) (command : Command) (state : State)
    → passes tells_none (parts_by failure (row_of command state)) ≡ true
row_none failure command state = grind arith

given_none : (responds : Bool) (item : Item) → passes tells_none (gone_parts responds item) ≡ true
given_none responds item = grind arith

pub given_left : (responds : Bool) (item : Item) → left_in item (gone_parts responds item) ≡ []
given_left responds (a_composite at composite) = refl
given_left responds item = tells_nothing item (gone_parts responds item) refl (given_none responds item)

-- an item that is begun is to tell all that it told
abbrev pub IsBegun : Phase → Item → List Part → Type 0
IsBegun Attached item parts = left_in item parts ≡ item_changes item
IsBegun _ item parts = IsLast (item_changes item) (left_in item parts)

composite_left : (at below : ℕ) (composite : Composite) (dies : Bool) (policy : Policy)
    → left_in (a_composite at composite) (events_row dies policy at below) ≡ changes_in composite
composite_left at below composite dies policy = by_row dies policy
  where
    all : List Change
    all = changes_in composite

    by_row : (dies : Bool) (policy : Policy)
        → left_in (a_composite at composite) (events_row dies policy at below) ≡ all
    by_row true NoThread = append-nil all
    by_row true EventThread = append-nil all
    by_row true All = append-nil all
    by_row false NoThread = append-nil all
    by_row false EventThread = append-nil all
    by_row false All = append-nil all

pub begun_left : (state : State) (item : Item) → IsBegun state.phase item (parts_of state item)
begun_left state item = by_item item state.phase refl
  where
    plain : (item : Item) (phase : Phase) → item_changes item ≡ [] → passes tells_none (parts_of state item) ≡ true
        → IsBegun phase item (parts_of state item)
    plain item Attached none is = tells_nothing item (parts_of state item) none is ∙ sym none
    plain item _ none is = none_left (item_changes item) _ (tells_nothing item (parts_of state item) none is)

    end_none : (terminated : Bool) → passes tells_none (end_parts terminated) ≡ true
    end_none terminated = grind arith

    by_item : (item : Item) (phase : Phase) → state.phase ≡ phase → IsBegun phase item (parts_of state item)
    by_item (a_request request) phase is = plain (a_request request) phase refl
        (row_none (failure_of (wanting request.command) state) request.command state)
    by_item (a_raw at body) phase is = plain (a_raw at body) phase refl refl
    by_item target_end phase is = plain target_end phase refl (end_none state.terminated)
    by_item (a_composite at composite) Attached is =
        rw is (composite_left at state.next_entry composite (has_death composite.events) composite.policy)
    by_item (a_composite at composite) Fresh is = none_left (changes_in composite) _ (rw is refl)
    by_item (a_composite at composite) Gone is = none_left (changes_in composite) _ (rw is refl)

pub found_left : (item : Item) (lookup : Lookup) (result : Result Finding) (state : State) (rest : List Part)
    → left_in item (finished lookup result state ++ rest) ≡ left_in item rest
found_left item (variable_write thing name text) result state rest = grind arith
found_left item _ result state rest = refl

pub skipped_left : {m : Machine} {hand : Hand} {part : Part} (item : Item) (rest : List Part) → Skips m hand part
    → left_in item rest ≡ left_in item (part ∷ rest)
skipped_left item rest (Skips.by_guard is) = refl
skipped_left item rest (Skips.by_wishes is) = refl
skipped_left item rest (Skips.no_request is) = refl

-- News ----------------------------------------------------------------------------------------------------------------

abbrev news_changes : News → List Change
news_changes (entry_verified entry) = []
news_changes (thread_changed started thread) = record { started = started; thread = thread } ∷ []

told_left : (item : Item) (news : List News) (rest : List Part)
    → left_in item (each_told news ++ rest) ≡ flat_map news_changes news ++ left_in item rest
told_left item [] rest = refl
told_left item (entry_verified entry ∷ news) rest = told_left item news rest
told_left item (thread_changed started thread ∷ news) rest =
    ap (λ (more : List Change). record { started = started; thread = thread } ∷ more) (told_left item news rest)

verified_none : (entries : List _) (news : List News)
    → flat_map news_changes (map entry_verified entries ++ news) ≡ flat_map news_changes news
verified_none [] news = refl
verified_none (entry ∷ entries) news = verified_none entries news

events_told : (events : List ATargetEvent)
    → flat_map news_changes (flat_map change_told events) ≡ flat_map changes_by events
events_told [] = refl
events_told (event ∷ events) = by_event event (events_told events)
  where
    by_event : (event : ATargetEvent)
        → flat_map news_changes (flat_map change_told events) ≡ flat_map changes_by events
        → flat_map news_changes (change_told event ++ flat_map change_told events)
        ≡ changes_by event ++ flat_map changes_by events
    by_event (happened.ThreadStart request thread) same =
        ap (λ (more : List Change). record { started = true; thread = thread } ∷ more) same
    by_event (happened.ThreadDeath request thread) same =
        ap (λ (more : List Change). record { started = false; thread = thread } ∷ more) same
    by_event _ same = same

news_are : (item : Item) → flat_map news_changes (news_in item) ≡ item_changes item
news_are (a_composite at composite) = events_told composite.events
news_are _ = refl

-- where the session is attached, all of it is told
pub news_left : (below : ℕ) (state : State) (hand : Hand) (rest : List Part)
    → left_in hand.item (told_in Attached (news_of below state hand.item) ++ rest)
    ≡ left_in hand.item (Part.Unfolds (TellsNews below) ∷ rest)
news_left below state hand rest = told_left hand.item (news_of below state hand.item) rest
    ∙ ap (λ (told : List Change). told ++ left_in hand.item rest)
    (verified_none (newly_verified below state.bound state.wishes) (news_in hand.item) ∙ news_are hand.item)

abbrev pub tells_news : Choice → Bool
tells_news (TellsNews below) = true
tells_news _ = false

-- no other choice is to tell of threads
pub chosen_left : (choice : Choice) (state : State) (hand : Hand) (rest : List Part) → tells_news choice ≡ false
    → left_in hand.item (chosen choice state hand ++ rest) ≡ left_in hand.item (Part.Unfolds choice ∷ rest)
chosen_left (TellsNews below) state hand rest is = cc
chosen_left Judges state hand rest is =
    judged_alike (left_in hand.item) (λ strikes parts. refl) state hand.item rest
chosen_left (Decides logged stops) state hand rest is =
    decided_alike (left_in hand.item) (λ thrown parts. refl) (λ stopping parts. refl) (λ thread object parts. refl)
    (λ parts. refl) (λ parts. refl) (λ text texts strikes parts. refl) state logged stops hand.item rest
chosen_left Stepped state hand rest is = by_code (refused_with hand.effect)
  where
    by_code : (code : Option ℕ) → left_in hand.item (stepped_by code ++ rest) ≡ left_in hand.item rest
    by_code None = refl
    by_code (Some code) = refl
chosen_left (Written seen) state hand rest is = by_code (refused_with hand.effect)
  where
    by_code : (code : Option ℕ) → left_in hand.item (written_by seen code ++ rest) ≡ left_in hand.item rest
    by_code None = refl
    by_code (Some code) = refl
chosen_left (Leaves exits) state hand rest is = by_phase state.phase
  where
    by_phase : (phase : Phase) → left_in hand.item (leaves phase exits ++ rest) ≡ left_in hand.item rest
    by_phase Fresh = refl
    by_phase Attached = refl
    by_phase Gone = refl

-- What changes no parts -----------------------------------------------------------------------------------------------

pub replied_left : (command : TargetCommand) (replied : Replied) (hand : Option Hand)
    → hand_left (option_map (hand_replied command replied) hand) ≡ hand_left hand
replied_left command replied None = refl
replied_left (a_question question) replied (Some hand) = refl
replied_left (an_effect effect) replied (Some hand) = refl

pub replied_last : (command : TargetCommand) (replied : Replied) (hand : Option Hand) → HandLast hand
    → HandLast (option_map (hand_replied command replied) hand)
replied_last command replied None h = tt
replied_last (a_question question) replied (Some hand) h = h
replied_last (an_effect effect) replied (Some hand) h = h

pub asked_left : (want : Want) (hand : Option Hand) → hand_left (option_map (asked_hand want) hand) ≡ hand_left hand
asked_left want None = refl
asked_left want (Some hand) = refl

pub asked_last : (want : Want) (hand : Option Hand) → HandLast hand → HandLast (option_map (asked_hand want) hand)
asked_last want None h = tt
asked_last want (Some hand) h = h

pub given_last : (hand : Option Hand) → HandLast (option_map given_up hand)
given_last None = tt
given_last (Some hand) = none_left (item_changes hand.item) _ (given_left (has_response hand.parts) hand.item)

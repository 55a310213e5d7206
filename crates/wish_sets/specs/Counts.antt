-- How many entries wish each event request: a plain scan of all that they wish, and the numbers that slots have.
use Rattle.std.specs.Prelude.{◌≡◌, ℕ, suc, ◌+◌, ◌-◌, ◌<◌, ◌≤◌, length, true, if◌then◌else◌, List, [], ◌∷◌, ◌++◌, map, flat_map}
use Rattle.std.specs.Prelude.{Option, Some, None}
use Rattle.std.specs.List.{AllByRecursion}
use Rattle.jdwp_values.specs.declared.id.ClassId.{ClassId}
use Rattle.wish_sets.specs.declared.entry.FunctionEntry.{FunctionEntry}
use Rattle.wish_sets.specs.declared.entry.LineEntry.{LineEntry}
use Rattle.wish_sets.specs.declared.facts.KnownClass.{KnownClass}
use Rattle.wish_sets.specs.declared.slot.Slot.{Slot}
use Rattle.wish_sets.specs.declared.wish.Wish.{Wish}
use Rattle.wish_sets.specs.declared.wish.Wish.TheVariants as wishes
use Rattle.wish_sets.specs.Forming.{function_watches, has_its_slot, IsWider}
use Rattle.wish_sets.specs.Names.{key_parts, package_name}
use Rattle.wish_sets.specs.Order.{is_wish, wish_rank}
use Rattle.wish_sets.specs.Places.{Place, list_places, function_places, places_in}
use Rattle.wish_sets.specs.Slots.{counted_slot, with_first, AreNumbered, AreFlagged, AreWithin}
use Rattle.wish_sets.specs.Wanted.{Wanted}
use Rattle.wish_sets.specs.Wished.{stops}

-- How many entries wish it --------------------------------------------------------------------------------------------

-- each entry of a list wishes that the classes of its package are told (JDWP, EventRequest command set, Set,
-- ClassMatch)
abbrev pub list_entry_watches : List ℕ × List LineEntry → List Wish
list_entry_watches list =
    map (λ (entry : LineEntry). wishes.Watch (package_name (key_parts list.0).package_path)) list.1

-- All that is wished but exceptions and the step, as often as it is: the starts and ends of threads once; the classes
-- of a package by each line and each function in it; and a location by each entry that is bound there.
abbrev pub entry_wishes : Wanted → List Wish
entry_wishes wanted =
    wishes.ThreadStart ∷ wishes.ThreadDeath ∷ flat_map list_entry_watches wanted.lists
    ++ (function_watches wanted.functions ++ stops wanted)

-- how often a wish is among these
abbrev pub times : Wish → List Wish → ℕ
times wish [] = 0
times wish (other ∷ those) = if is_wish wish other then suc (times wish those) else times wish those

-- how many entries wish it
abbrev pub wishers : Wish → Wanted → ℕ
wishers wish wanted = times wish (entry_wishes wanted)

-- The numbers that are kept: each wish that an entry wishes has a slot; the number of a slot is that of a plain scan;
-- and what has the number 0 isn't wished.
pub record AreCounts (wanted : Wanted) (slots : List Slot) : Type 0 where
  pub slotted : (wish : Wish) → 0 < wishers wish wanted → has_its_slot slots wish ≡ true
  pub numbers : AreNumbered (λ wish. wishers wish wanted) slots
  pub wished : AreFlagged slots

-- Shares --------------------------------------------------------------------------------------------------------------

-- breakpoints at some places
abbrev pub stops_at : List Place → List Wish
stops_at those = map (λ (place : Place). wishes.Stop place.at) those

-- the places of a list in a class, none before it is prepared
abbrev pub list_places_in : List ℕ × List LineEntry → ClassId × KnownClass → List Place
list_places_in list class = if class.1.prepared then list_places class.0 class.1 list else []

-- what a list wishes
abbrev pub list_share : List (ClassId × KnownClass) → List ℕ × List LineEntry → List Wish
list_share classes list = list_entry_watches list ++ stops_at (flat_map (list_places_in list) classes)

-- the places of functions in a class, none before it is prepared
abbrev pub function_places_in : List FunctionEntry → ClassId × KnownClass → List Place
function_places_in functions class =
    if class.1.prepared then flat_map (function_places class.0 class.1) functions else []

-- what the list of a source that may not be listed wishes
abbrev pub listed_share : List (ClassId × KnownClass) → List ℕ → Option (List LineEntry) → List Wish
listed_share classes key None = []
listed_share classes key (Some entries) = list_share classes (key, entries)

-- what functions wish
abbrev pub function_share : List (ClassId × KnownClass) → List FunctionEntry → List Wish
function_share classes functions =
    function_watches functions ++ stops_at (flat_map (function_places_in functions) classes)

-- what is wished in a class
abbrev pub class_share : Wanted → ClassId × KnownClass → List Wish
class_share wanted class = stops_at (places_in wanted class)

-- what is wished in a class that may not be known
abbrev pub option_share : Wanted → ClassId → Option KnownClass → List Wish
option_share wanted class None = []
option_share wanted class (Some facts) = class_share wanted (class, facts)

-- What is wanted changes: what is wished more, and what is wished less.
pub record IsShift (before after : Wanted) (added taken : List Wish) : Type 0 where
  pub numbers : (wish : Wish) → wishers wish after + times wish taken ≡ wishers wish before + times wish added

-- so many entries may wish it already, where so many more will
abbrev pub most_for : ℕ → ℕ
most_for more = 18446744073709551615 - more

-- so many entries at most wish each of these
abbrev pub HaveRoom : ℕ → List Slot → List Wish → Type 0
HaveRoom most slots those = AllByRecursion (λ wish. AreWithin wish most slots) those

-- the breakpoints in all classes
abbrev pub class_stops : Wanted → List (ClassId × KnownClass) → List Wish
class_stops wanted classes = stops_at (flat_map (places_in wanted) classes)

-- exceptions and steps are not among these
abbrev pub AreEarly : List Wish → Type 0
AreEarly those = AllByRecursion (λ wish. wish_rank wish < 4) those

-- Classes were made known: what is wished more and less by them is added to what was. Where nothing is, all places are
-- where they were.
pub record IsTold (wanted : Wanted) (old new : List (ClassId × KnownClass)) (added_before added taken_before
    taken : List Wish) : Type 0 where
  pub numbers : (wish : Wish) → times wish (class_stops wanted new) + times wish taken + times wish added_before
      ≡ times wish (class_stops wanted old) + times wish taken_before + times wish added
  pub more : length added_before ≤ length added
  pub less : length taken_before ≤ length taken
  pub same : length added ≡ length added_before → length taken ≡ length taken_before
      → flat_map (places_in wanted) new ≡ flat_map (places_in wanted) old

-- Numbers that change -------------------------------------------------------------------------------------------------

-- the number of a wish's slot changes by a step, where it has one
abbrev pub moved : (ℕ → ℕ) → Wish → List Slot → List Slot
moved step wish slots =
    with_first (λ slot. is_wish wish slot.wish) (λ slot. counted_slot (step slot.count) slot) slots

-- it changes by a step for each of these
abbrev pub moved_all : (ℕ → ℕ) → List Wish → List Slot → List Slot
moved_all step [] slots = slots
moved_all step (wish ∷ those) slots = moved_all step those (moved step wish slots)

-- one entry more wishes it, and one for each of these
abbrev pub raised : Wish → List Slot → List Slot
raised = moved (λ number. number + 1)

abbrev pub raised_all : List Wish → List Slot → List Slot
raised_all = moved_all (λ number. number + 1)

-- one entry less wishes it, and one for each of these
abbrev pub lowered : Wish → List Slot → List Slot
lowered = moved (λ number. number - 1)

abbrev pub lowered_all : List Wish → List Slot → List Slot
lowered_all = moved_all (λ number. number - 1)

-- What is wished more is counted once it has slots, and then what is wished less is counted no longer.
pub record IsShifted (added taken : List Wish) (old new : List Slot) : Type 0 where
  pub wide : List Slot
  pub wider : IsWider old wide
  pub slotted : AllByRecursion (λ wish. has_its_slot wide wish ≡ true) added
  pub numbers : new ≡ lowered_all taken (raised_all added wide)

-- Which event requests are wished of the target (JDWP, EventRequest command set, Set).
use Rattle.std.specs.Prelude.{ℕ, bytes_eq, Bool, true, false, ◌||◌, ◌&&◌, if◌then◌else◌, List, [], ◌∷◌, ◌++◌, map}
use Rattle.std.specs.Prelude.{filter, Option, Some, None}
use Rattle.std.specs.List.{list_any}
use Rattle.class_tables.specs.Views.{Key}
use Rattle.wish_sets.specs.declared.entry.FunctionEntry.{FunctionEntry}
use Rattle.wish_sets.specs.declared.entry.LineEntry.{LineEntry}
use Rattle.wish_sets.specs.declared.wish.StepWish.{StepWish}
use Rattle.wish_sets.specs.declared.wish.Wish.{Wish}
use Rattle.wish_sets.specs.declared.wish.Wish.TheVariants as wishes
use Rattle.wish_sets.specs.Names.{key_parts, same_key, has_class, names_class, method_named, package_named}
use Rattle.wish_sets.specs.Names.{package_name}
use Rattle.wish_sets.specs.Order.{in_order}
use Rattle.wish_sets.specs.Places.{places}
use Rattle.wish_sets.specs.Wanted.{Wanted}

-- the locations at which entries are bound
abbrev pub stops : Wanted → List Wish
stops wanted = map (λ place. wishes.Stop place.at) (places wanted)

-- exceptions stop where the caught or the uncaught ones do (JDWP, EventRequest command set, Set, ExceptionOnly)
abbrev pub thrown : Bool → Bool → List Wish
thrown caught uncaught = if caught || uncaught then wishes.Thrown caught uncaught ∷ [] else []

-- the step in flight (JDWP, EventRequest command set, Set, Step)
abbrev pub stepping : Option StepWish → List Wish
stepping None = []
stepping (Some step) = wishes.Step step.thread step.depth ∷ []

-- there is an entry
abbrev pub is_filled : List LineEntry → Bool
is_filled [] = false
is_filled (entry ∷ entries) = true

-- a list has an entry
abbrev pub has_entries : List ℕ × List LineEntry → Bool
has_entries list = is_filled list.1

-- the packages that are watched: those of sources whose list has an entry, and those of functions that name a class
abbrev pub watched : Wanted → List (List ℕ)
watched wanted =
    map (λ list. package_name (key_parts list.0).package_path) (filter has_entries wanted.lists)
    ++ map (λ entry. package_named entry.name) (filter (λ entry. has_class entry.name) wanted.functions)

-- All that is wished: the starts and ends of threads, whatever is wanted; the classes of each package that is watched,
-- as they are prepared; each location at which an entry is bound; the exceptions that stop; and the step in flight.
abbrev pub all_wished : Wanted → List Wish
all_wished wanted =
    wishes.ThreadStart ∷ wishes.ThreadDeath ∷ map wishes.Watch (watched wanted) ++ stops wanted
    ++ thrown wanted.caught wanted.uncaught ++ stepping wanted.step

-- the event requests that are wished, in wish order, each once
unfoldable pub wished : Wanted → List Wish
wished wanted = in_order (all_wished wanted)

-- a package is watched, by the path that a signature has
abbrev pub is_watched : Wanted → List ℕ → Bool
is_watched wanted path = list_any (bytes_eq (package_name path)) (watched wanted)

-- a source is listed, by its key: with an entry at least
abbrev pub is_listed : Wanted → Key → Bool
is_listed wanted key = list_any (λ list. has_entries list && same_key (key_parts list.0) key) wanted.lists

-- a function names a class, and a method where one is given
abbrev pub names : List ℕ → Option (List ℕ) → FunctionEntry → Bool
names signature None entry = names_class signature entry.name
names signature (Some method) entry =
    names_class signature entry.name && bytes_eq method (method_named entry.name)

-- a class is named by a function, by its signature; where a method is given, the method too
abbrev pub is_named : Wanted → List ℕ → Option (List ℕ) → Bool
is_named wanted signature method = list_any (names signature method) wanted.functions

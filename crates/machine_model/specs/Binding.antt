-- Breakpoints are bound by all that is known of the classes in which they may stand. The law stands at the end, behind
-- what it speaks of (DAP specification, SetBreakpoints request; JDWP, VirtualMachine command set, AllClasses; JDWP,
-- ReferenceType command set, SourceFile and Methods; JDWP, Method command set, LineTable).
use Rattle.std.specs.Prelude.{◌≡◌, Bool, false, List, [], Some}
use Rattle.std.specs.List.{AllByRecursion}
use Rattle.class_tables.specs.Facts.{Known, same_class}
use Rattle.class_tables.specs.Lookups.{found_in}
use Rattle.class_tables.specs.Tables.{under}
use Rattle.machine_model.specs.Classes.{known_plan}
use Rattle.machine_model.specs.Names.{Attached, ClassId}
use Rattle.machine_model.specs.Plans.{Sight, has, need}
use Rattle.machine_model.specs.Rest.{IsAtRest}
use Rattle.machine_model.specs.Runs.{Message, Run}
use Rattle.machine_model.specs.State.{Machine, State}
use Rattle.wish_sets.specs.Places.{places_in}
use Rattle.wish_sets.specs.Wanted.{Wanted, class_found}
use Rattle.wish_sets.specs.declared.facts.KnownClass.{KnownClass}

-- what is known of classes, and nothing else
abbrev pub sight_alone : Known → Sight
sight_alone known = record { classes = found_in known; asked = [] }

-- The event requests hold facts of a class by which its breakpoints stand at just the places at which these facts put
-- them.
pub record HasPlaces (wanted : Wanted) (class : ClassId) (facts : KnownClass) : Type 0 where
  pub held : KnownClass
  pub is_held : under same_class class wanted.classes ≡ Some held
  pub same_places : places_in wanted (class, facts) ≡ places_in wanted (class, held)

-- The breakpoints of a class stand at just the places at which all that is known of it puts them.
abbrev pub IsBound : Known → Wanted → ClassId → Type 0
IsBound known wanted class = (facts : KnownClass) → class_found (found_in known) class ≡ Some facts
    → HasPlaces wanted class facts

-- All classes were listed since the last watch was set. Of each class that is prepared in a watched package the source
-- is known, and of each whose source is listed, or that a function names, the methods; of these the lines, of one whose
-- source isn't listed the lines of those that a function names. These are the classes that are found. In each of them
-- breakpoints are bound at just the places that all that is known of it gives.
pub record AreBound (unlisted : Bool) (wanted : Wanted) (known : Known) : Type 0 where
  pub listed : unlisted ≡ false
  pub found : List ClassId
  pub none_lacking : need (sight_alone known) (known_plan wanted (found_in known)) ≡ has found
  pub bound : AllByRecursion (IsBound known wanted) found

abbrev pub AreAllBound : State → Type 0
AreAllBound state = AreBound state.unlisted state.wishes.wanted state.classes

-- At rest, once the session is attached, breakpoints are bound by all that is known.
abbrev pub Binds : Type 0
Binds = (messages : List Message) (m : Machine) → Run messages m → IsAtRest m → m.state.phase ≡ Attached
    → AreAllBound m.state

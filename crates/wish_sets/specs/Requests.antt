-- The event request of each wish (JDWP, EventRequest command set, Set).
use Rattle.std.specs.Prelude.{ℕ, pos, List, [], ◌∷◌, ◌++◌, codes}
use Rattle.jdwp_events.specs.declared.kind.EventKind.{EventKind}
use Rattle.jdwp_events.specs.declared.kind.EventKind.TheVariants as kinds
use Rattle.jdwp_events.specs.declared.kind.Policy.{Policy}
use Rattle.jdwp_events.specs.declared.kind.Policy.TheVariants.{NoThread, All}
use Rattle.jdwp_events.specs.declared.modifier.Modifier.{Modifier}
use Rattle.jdwp_events.specs.declared.modifier.Modifier.TheVariants as modifiers
use Rattle.wish_sets.specs.declared.wish.Wish.{Wish}
use Rattle.wish_sets.specs.declared.wish.Wish.TheVariants as wishes
use Rattle.wish_sets.specs.Order.{bit, number_of_depth}

-- the kind of its events (JDWP, Constants, EventKind)
abbrev pub kind_of_wish : Wish → EventKind
kind_of_wish wishes.ThreadStart = kinds.ThreadStart
kind_of_wish wishes.ThreadDeath = kinds.ThreadDeath
kind_of_wish (wishes.Watch path) = kinds.ClassPrepare
kind_of_wish (wishes.Stop at) = kinds.Breakpoint
kind_of_wish (wishes.Thrown caught uncaught) = kinds.Exception
kind_of_wish (wishes.Step thread depth) = kinds.SingleStep

-- what its events suspend: nothing as threads start and end, else all (JDWP, Constants, SuspendPolicy)
abbrev pub policy_of_wish : Wish → Policy
policy_of_wish wishes.ThreadStart = NoThread
policy_of_wish wishes.ThreadDeath = NoThread
policy_of_wish (wishes.Watch path) = All
policy_of_wish (wishes.Stop at) = All
policy_of_wish (wishes.Thrown caught uncaught) = All
policy_of_wish (wishes.Step thread depth) = All

-- the pattern of a package's classes; that of the default package matches all (JDWP, EventRequest command set, Set,
-- ClassMatch)
abbrev pub package_pattern : List ℕ → List ℕ
package_pattern [] = codes "*"
package_pattern (byte ∷ bytes) = (byte ∷ bytes) ++ codes ".*"

-- its modifiers; exceptions are those of each class, and a step has the size of a line, 1 (JDWP, EventRequest command
-- set, Set, modifiers; JDWP, Constants, StepSize)
abbrev pub modifiers_of_wish : Wish → List Modifier
modifiers_of_wish wishes.ThreadStart = []
modifiers_of_wish wishes.ThreadDeath = []
modifiers_of_wish (wishes.Watch path) = modifiers.ClassMatch (package_pattern path) ∷ []
modifiers_of_wish (wishes.Stop at) = modifiers.LocationOnly at ∷ []
modifiers_of_wish (wishes.Thrown caught uncaught) =
    modifiers.ExceptionOnly (record { 0 = 0 }) (bit caught) (bit uncaught) ∷ []
modifiers_of_wish (wishes.Step thread depth) =
    modifiers.Step thread (pos 1) (pos (number_of_depth depth)) ∷ []

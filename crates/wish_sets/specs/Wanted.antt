-- What a session wants to stop at: what the client listed last, the step in flight, and the classes as they were last
-- made known.
use Rattle.std.specs.Prelude.{ℕ, bytes_eq, Bool, false, List, [], ◌∷◌, map, Option, Some, None, option_map}
use Rattle.std.specs.Option.{option_flatten}
use Rattle.class_tables.specs.Facts.{same_class}
use Rattle.class_tables.specs.Lookups.{Lookups}
use Rattle.class_tables.specs.Tables.{put}
use Rattle.class_tables.specs.declared.loaded.Loaded.{Loaded}
use Rattle.jdwp_values.specs.declared.class.Method.{Method}
use Rattle.jdwp_values.specs.declared.id.ClassId.{ClassId}
use Rattle.wish_sets.specs.declared.entry.FunctionEntry.{FunctionEntry}
use Rattle.wish_sets.specs.declared.entry.LineEntry.{LineEntry}
use Rattle.wish_sets.specs.declared.facts.KnownClass.{KnownClass}
use Rattle.wish_sets.specs.declared.facts.KnownMethod.{KnownMethod}
use Rattle.wish_sets.specs.declared.wish.StepWish.{StepWish}

-- All that the wished set is formed from: the lists of breakpoints, each under the key of its source; the functions to
-- stop in; whether caught and uncaught exceptions stop; the step in flight; and the classes as they were last made
-- known, in the order in which they were first.
pub record Wanted : Type 0 where
  pub lists : List (List ℕ × List LineEntry)
  pub functions : List FunctionEntry
  pub caught : Bool
  pub uncaught : Bool
  pub step : Option StepWish
  pub classes : List (ClassId × KnownClass)

-- nothing was asked for yet
abbrev pub nothing_wanted : Wanted
nothing_wanted =
    record { lists = []; functions = []; caught = false; uncaught = false; step = None; classes = [] }

-- the list of a source is replaced (DAP specification, SetBreakpoints request)
abbrev pub with_lines : List ℕ → List LineEntry → Wanted → Wanted
with_lines key entries wanted = record wanted { lists = put bytes_eq key entries wanted.lists }

-- the functions are replaced (DAP specification, SetFunctionBreakpoints request)
abbrev pub with_functions : List FunctionEntry → Wanted → Wanted
with_functions entries wanted = record wanted { functions = entries }

-- the exceptions that stop are replaced (DAP specification, SetExceptionBreakpoints request)
abbrev pub with_exceptions : Bool → Bool → Wanted → Wanted
with_exceptions caught uncaught wanted = record wanted { caught = caught; uncaught = uncaught }

-- a step is in flight, or none is (DAP specification, Next, StepIn and StepOut requests)
abbrev pub with_step : Option StepWish → Wanted → Wanted
with_step step wanted = record wanted { step = step }

-- what is found of a class takes the place of what was known, else stands behind all
abbrev pub put_known : ClassId → Option KnownClass → List (ClassId × KnownClass) → List (ClassId × KnownClass)
put_known class None classes = classes
put_known class (Some facts) classes = put same_class class facts classes

-- what is found of a method (JDWP, Method command set, LineTable)
abbrev pub method_found : Lookups → ClassId → Method → KnownMethod
method_found known class method =
    record { id = method.id; name = method.name; lines = option_flatten (known.lines class method.id) }

-- what is found of its methods (JDWP, ReferenceType command set, Methods)
abbrev pub methods_found : Lookups → ClassId → Option (List Method) → List KnownMethod
methods_found known class None = []
methods_found known class (Some methods) = map (method_found known class) methods

-- what is found of a loaded class
abbrev pub facts_found : Lookups → ClassId → Loaded → KnownClass
facts_found known class loaded = record {
  tag = loaded.tag;
  signature = loaded.signature;
  prepared = loaded.prepared;
  source = option_flatten (known.source class);
  methods = methods_found known class (known.methods class);
}

-- what is found of a class (JDWP, VirtualMachine command set, AllClasses; JDWP, ReferenceType command set, SourceFile)
abbrev pub class_found : Lookups → ClassId → Option KnownClass
class_found known class = option_map (facts_found known class) (known.loaded class)

-- a class is made known, by what is found of it now; one that was not loaded changes nothing
abbrev pub with_class : Lookups → ClassId → Wanted → Wanted
with_class known class wanted = record wanted { classes = put_known class (class_found known class) wanted.classes }

-- several classes are made known, one after the other (JDWP, VirtualMachine command set, AllClasses)
abbrev pub with_known : Lookups → List ClassId → Wanted → Wanted
with_known known [] wanted = wanted
with_known known (class ∷ others) wanted = with_known known others (with_class known class wanted)

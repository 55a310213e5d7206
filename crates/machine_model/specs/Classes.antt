-- What has to be known of classes before breakpoints are bound in them, and what a list of all classes tells (JDWP,
-- VirtualMachine command set, AllClasses; JDWP, ReferenceType command set, SourceFile and Methods; JDWP, Method command
-- set, LineTable).
use Rattle.std.specs.Prelude.{ℕ, ℤ, ◌==◌, ◌/◌, ◌%◌, ◌∷◌, ◌||◌, Bool, true, false, List, [], filter}
use Rattle.std.specs.Prelude.{Option, None, Some}
use Rattle.std.specs.Int.{cast_unsigned, w32}
use Rattle.class_tables.specs.Facts.{Known, is_loaded, with_fact}
use Rattle.class_tables.specs.Lookups.{Lookups}
use Rattle.class_tables.specs.Signatures.{package_in}
use Rattle.class_tables.specs.Views.{Key}
use Rattle.class_tables.specs.declared.loaded.Loaded.{Loaded}
use Rattle.jdwp_commands.specs.declared.answer.Answer.TheVariants as answers
use Rattle.jdwp_commands.specs.declared.listed.LoadedClass.{LoadedClass}
use Rattle.jdwp_commands.specs.declared.question.Question.TheVariants as questions
use Rattle.jdwp_values.specs.declared.class.Method.{Method}
use Rattle.jdwp_values.specs.declared.id.ClassId.{ClassId}
use Rattle.machine_model.specs.Facts.{methods_in, source_in}
use Rattle.machine_model.specs.Names.{Answer, Want}
use Rattle.machine_model.specs.Plans.{Plan, asking, chained, each, gives, joined, made_with, pairs}
use Rattle.wish_sets.specs.Places.{key_by}
use Rattle.wish_sets.specs.Wanted.{Wanted}
use Rattle.wish_sets.specs.Wished.{is_listed, is_named, is_watched}

-- A list of all classes -----------------------------------------------------------------------------------------------

-- a status has the bit of a class that is prepared (JDWP, Constants, ClassStatus, PREPARED)
abbrev pub has_prepared : ℤ → Bool
has_prepared status = (cast_unsigned w32 status / 2) % 2 == 1

-- a class of the list
abbrev pub with_listed : Known → LoadedClass → Known
with_listed known class =
    with_fact (is_loaded class.class class.tag class.signature (has_prepared class.status)) known

-- the classes that an answer lists
abbrev pub classes_in : Option Answer → List LoadedClass
classes_in (Some (answers.AllClasses classes)) = classes
classes_in _ = []

-- What is asked of a class --------------------------------------------------------------------------------------------

-- the lines of a method are asked, and nothing is read off
abbrev pub lines_plan : ClassId → Method → Plan (Option Answer)
lines_plan class method = asking (λ heard. heard) (Want.Fact (questions.LineTable class method.id))

-- of a class whose source is listed all methods count, of another those that a function names
abbrev pub counts : Bool → Wanted → List ℕ → Method → Bool
counts keyed wanted signature method = keyed || is_named wanted signature (Some method.name)

-- the lines of the methods of a class that count; the class is found then
abbrev pub methods_plan : Bool → Wanted → ClassId → List ℕ → List Method → Plan (List ClassId)
methods_plan keyed wanted class signature methods =
    made_with (λ heard. class ∷ []) (each (lines_plan class) (filter (counts keyed wanted signature) methods))

-- the source of a class is listed
abbrev pub is_keyed : Wanted → Option Key → Bool
is_keyed wanted None = false
is_keyed wanted (Some key) = is_listed wanted key

-- a class whose source is listed, or that a function names, is asked for its methods
abbrev pub bound_plan : Bool → Bool → Wanted → ClassId → List ℕ → Plan (List ClassId)
bound_plan false keyed wanted class signature = gives []
bound_plan true keyed wanted class signature = chained (asking methods_in (Want.Fact (questions.Methods class)))
    (methods_plan keyed wanted class signature)

abbrev pub keyed_plan : Bool → Wanted → ClassId → List ℕ → Plan (List ClassId)
keyed_plan keyed wanted class signature =
    bound_plan (keyed || is_named wanted signature None) keyed wanted class signature

-- a class that a function names is asked for its methods whatever its source is
abbrev pub early_plan : Bool → ClassId → Plan (List Method)
early_plan false class = gives []
early_plan true class = asking methods_in (Want.Fact (questions.Methods class))

-- a class in a package that is watched is asked for its source, and for its methods beside it where a function names it
abbrev pub source_plan : Wanted → ClassId → List ℕ → Plan (List ClassId)
source_plan wanted class signature =
    pairs (asking source_in (Want.Fact (questions.SourceFile class)))
    (early_plan (is_named wanted signature None) class)
    (λ two. keyed_plan (is_keyed wanted (key_by signature two.0)) wanted class signature)

abbrev pub watched_plan : Bool → Wanted → ClassId → List ℕ → Plan (List ClassId)
watched_plan false wanted class signature = gives []
watched_plan true wanted class signature = source_plan wanted class signature

abbrev pub package_plan : Wanted → ClassId → List ℕ → Option (List ℕ) → Plan (List ClassId)
package_plan wanted class signature None = gives []
package_plan wanted class signature (Some path) = watched_plan (is_watched wanted path) wanted class signature

abbrev pub prepared_plan : Bool → Wanted → ClassId → List ℕ → Plan (List ClassId)
prepared_plan false wanted class signature = gives []
prepared_plan true wanted class signature = package_plan wanted class signature (package_in signature)

-- a class that isn't known to be prepared is asked for nothing
abbrev pub class_plan : Wanted → ClassId → Option Loaded → Plan (List ClassId)
class_plan wanted class None = gives []
class_plan wanted class (Some loaded) = prepared_plan loaded.prepared wanted class loaded.signature

-- The look-up ---------------------------------------------------------------------------------------------------------

-- each class that is known, in the order in which they were first listed
abbrev pub known_plan : Wanted → Lookups → Plan (List ClassId)
known_plan wanted known =
    made_with joined (each (λ class. class_plan wanted class (known.loaded class)) known.order)

-- a list of all classes, of which nothing is read off
abbrev pub listing_plan : Plan (List ClassId)
listing_plan = asking (λ heard. []) (Want.Must questions.AllClasses)

-- Each class is asked for what is missing. Where a watch was set since they were listed, all classes are listed beside
-- it, and none is found before.
abbrev pub classes_plan : Bool → Wanted → Lookups → Plan (List ClassId)
classes_plan true wanted known = pairs listing_plan (known_plan wanted known) (λ two. gives two.0)
classes_plan false wanted known = known_plan wanted known

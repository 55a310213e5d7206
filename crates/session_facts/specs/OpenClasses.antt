-- How classes stand by what was learnt of them: which may lack something, and which may be found, whatever is asked.
use Rattle.std.specs.Prelude.{◌≡◌, ◌∷◌, ◌++◌, ◌||◌, Bool, true, false, cond, not, filter, fold, is_some, List, []}
use Rattle.std.specs.Prelude.{ℕ, length, nat_le, Option, None, Some, option_map}
use Rattle.std.specs.List.{flat_map, list_all, list_any}
use Rattle.class_tables.specs.Facts.{Known, same_class}
use Rattle.class_tables.specs.Lookups.{Lookups, found_in}
use Rattle.class_tables.specs.Views.{Key}
use Rattle.jdwp_commands.specs.declared.listed.LoadedClass.{LoadedClass}
use Rattle.jdwp_commands.specs.declared.question.Question.{Question}
use Rattle.jdwp_commands.specs.declared.question.Question.TheVariants as questions
use Rattle.jdwp_events.specs.declared.composite.Composite.{Composite}
use Rattle.jdwp_values.specs.declared.class.Method.{Method}
use Rattle.jdwp_values.specs.declared.id.ClassId.{ClassId}
use Rattle.machine_model.specs.Classes.{counts, is_keyed, with_listed}
use Rattle.machine_model.specs.Composites.{prepared_in}
use Rattle.machine_model.specs.declared.items.Phase.{Phase}
use Rattle.machine_model.specs.declared.items.Phase.TheVariants.{Fresh, Attached, Gone}
use Rattle.session_facts.specs.ClassPlanning.{watched_in}
use Rattle.session_facts.specs.declared.open_classes.OpenClasses.{OpenClasses}
use Rattle.session_facts.specs.declared.open_classes.Standing.{Standing}
use Rattle.session_facts.specs.declared.open_classes.Standing.TheVariants.{Passed, Settled, Open}
use Rattle.wish_sets.specs.Places.{key_by}
use Rattle.wish_sets.specs.Wanted.{Wanted}
use Rattle.wish_sets.specs.Wished.{is_listed, is_named}

-- How a class stands --------------------------------------------------------------------------------------------------

-- a class whose methods are known, and the lines too of all that count, or not
abbrev pub lines_standing : Bool → Standing
lines_standing true = Settled
lines_standing false = Open

-- a class whose source is listed, or that a function names: the lines of the methods that count decide
abbrev pub methods_standing : Lookups → Bool → Wanted → ClassId → List ℕ → Option (List Method) → Standing
methods_standing known keyed wanted class signature None = Open
methods_standing known keyed wanted class signature (Some methods) = lines_standing
    (list_all (λ method. is_some (known.lines class method.id)) (filter (counts keyed wanted signature) methods))

-- a class whose source is known
abbrev pub bound_standing : Lookups → Bool → Bool → Wanted → ClassId → List ℕ → Standing
bound_standing known false keyed wanted class signature = Passed
bound_standing known true keyed wanted class signature =
    methods_standing known keyed wanted class signature (known.methods class)

abbrev pub keyed_standing : Lookups → Bool → Wanted → ClassId → List ℕ → Standing
keyed_standing known keyed wanted class signature =
    bound_standing known (keyed || is_named wanted signature None) keyed wanted class signature

-- a class in a package that is watched
abbrev pub source_standing : Wanted → Lookups → ClassId → List ℕ → Option (Option (List ℕ)) → Standing
source_standing wanted known class signature None = Open
source_standing wanted known class signature (Some source) =
    keyed_standing known (is_keyed wanted (key_by signature source)) wanted class signature

abbrev pub signed_standing : Wanted → Lookups → ClassId → Option (List ℕ) → Standing
signed_standing wanted known class None = Passed
signed_standing wanted known class (Some signature) =
    source_standing wanted known class signature (known.source class)

abbrev pub class_standing : Wanted → Lookups → ClassId → Standing
class_standing wanted known class = signed_standing wanted known class (watched_in wanted (known.loaded class))

-- the source of a class is known, and isn't listed
abbrev pub unlisted_by : Wanted → Option Key → Bool
unlisted_by wanted None = false
unlisted_by wanted (Some key) = not (is_listed wanted key)

-- no function names a class, as far as its signature is known
abbrev pub unnamed_by : Wanted → Option (List ℕ) → Bool
unnamed_by wanted None = true
unnamed_by wanted (Some signature) = not (is_named wanted signature None)

-- The classes that are left -------------------------------------------------------------------------------------------

-- something may be lacking of a class
abbrev pub may_lack : Standing → Bool
may_lack Passed = false
may_lack Settled = false
may_lack Open = true

-- a class may be found
abbrev pub may_be_found : Standing → Bool
may_be_found Passed = false
may_be_found Settled = true
may_be_found Open = true

-- a class, where it is kept
abbrev pub kept_by : Bool → ClassId → List ClassId
kept_by false class = []
kept_by true class = class ∷ []

-- those of some classes that stand so, in order
abbrev pub standing_so : (Standing → Bool) → Wanted → Lookups → List ClassId → List ClassId
standing_so so wanted known classes =
    flat_map (λ class. kept_by (so (class_standing wanted known class)) class) classes

-- Of all classes these are left, in order: each that is left out stands so that it needn't be kept.
pub record AreLeft (needed : ClassId → Bool) (all left : List ClassId) : Type 0 where
  pub keeps : ClassId → Bool
  pub are : left ≡ flat_map (λ class. kept_by (keeps class) class) all
  pub needless : (class : ClassId) → keeps class ≡ false → needed class ≡ false

-- Each class that is left out lacks nothing, or isn't found.
pub record AreOpen (wanted : Wanted) (known : Lookups) (open_ones : OpenClasses) : Type 0 where
  pub lacking : AreLeft (λ class. may_lack (class_standing wanted known class)) known.order open_ones.lacking
  pub found : AreLeft (λ class. may_be_found (class_standing wanted known class)) known.order open_ones.found

-- What is learnt from the reply to a question leaves it so: a question for a fact of one class, and any other that lists
-- no classes.
abbrev pub stays_open : Question → Bool
stays_open questions.AllClasses = false
stays_open _ = true

-- A class is told -----------------------------------------------------------------------------------------------------

-- a class stands as before, or lower: it lacks nothing that it didn't lack, and isn't found where it wasn't
abbrev pub stands_within : Standing → Standing → Bool
stands_within Passed was = true
stands_within Settled was = may_be_found was
stands_within Open was = may_lack was

-- how a class stood, where it was listed or told before
abbrev pub stood : Wanted → Lookups → ClassId → Option Standing
stood wanted known class = option_map (λ loaded. class_standing wanted known class) (known.loaded class)

-- a class stands behind those before it
abbrev pub joined : Standing → ClassId → OpenClasses → OpenClasses
joined standing class left = record {
  lacking = left.lacking ++ kept_by (may_lack standing) class;
  found = left.found ++ kept_by (may_be_found standing) class;
}

-- so many may be found where a class takes its place among them
abbrev pub most_found : ℕ
most_found = 16

-- a class is among others
abbrev pub has_class : List ClassId → ClassId → Bool
has_class classes class = list_any (same_class class) classes

-- of all classes one and those that are left, in order
abbrev pub placed : ClassId → List ClassId → List ClassId → List ClassId
placed class left all = flat_map (λ other. kept_by (same_class class other || has_class left other) other) all

-- a class takes its place among those that are left, where these are few; else all are gone through anew
abbrev pub risen : List ClassId → ClassId → OpenClasses → Option OpenClasses
risen all class left = cond (nat_le (length left.found) most_found)
    (Some (record { lacking = placed class left.lacking all; found = placed class left.found all })) None

-- Those that are left once a class is told, by how it stood and stands: it joins them where it is new. Told again it
-- leaves them as they are, unless it rises.
abbrev pub told_as : List ClassId → Option Standing → Standing → ClassId → OpenClasses → Option OpenClasses
told_as all None now class left = Some (joined now class left)
told_as all (Some was) now class left = cond (stands_within now was) (Some left) (risen all class left)

abbrev pub left_told : Wanted → Known → LoadedClass → Option OpenClasses → Option OpenClasses
left_told wanted known told None = None
left_told wanted known told (Some left) =
    told_as (found_in (with_listed known told)).order (stood wanted (found_in known) told.class)
    (class_standing wanted (found_in (with_listed known told)) told.class) told.class left

-- what is known, and the classes that are left, once a class is told
abbrev pub with_told : Wanted → Known × Option OpenClasses → LoadedClass → Known × Option OpenClasses
with_told wanted before told = (with_listed before.0 told, left_told wanted before.0 told before.1)

-- the classes that a composite tells of, where the session is attached
abbrev pub told_in : Phase → Composite → List LoadedClass
told_in Fresh composite = []
told_in Attached composite = prepared_in composite
told_in Gone composite = []

-- what is known, and the classes that are left, once an item is taken
abbrev pub left_in : Wanted → Phase → Composite → Known → Option OpenClasses → Known × Option OpenClasses
left_in wanted phase composite known left = fold (with_told wanted) (known, left) (told_in phase composite)

-- What has to be known of classes before breakpoints are bound in them, in the words of the code: what each class
-- lacks, and whether it is found (JDWP, ReferenceType command set, SourceFile and Methods; JDWP, Method command set,
-- LineTable).
use Rattle.std.specs.Prelude.{ℕ, ◌∷◌, ◌||◌, Bool, true, false, cond, filter, List, [], Option, None, Some}
use Rattle.std.specs.List.{flat_map}
use Rattle.class_tables.specs.Signatures.{package_in}
use Rattle.class_tables.specs.declared.loaded.Loaded.{Loaded}
use Rattle.jdwp_commands.specs.declared.answer.Answer.{Answer}
use Rattle.jdwp_commands.specs.declared.question.Question.{Question}
use Rattle.jdwp_commands.specs.declared.question.Question.TheVariants as questions
use Rattle.jdwp_values.specs.declared.class.LineTable.{LineTable}
use Rattle.jdwp_values.specs.declared.class.Method.{Method}
use Rattle.jdwp_values.specs.declared.id.ClassId.{ClassId}
use Rattle.jdwp_values.specs.declared.id.MethodId.{MethodId}
use Rattle.machine_model.specs.Classes.{counts, is_keyed}
use Rattle.machine_model.specs.Facts.{lines_in, methods_in, source_in}
use Rattle.machine_model.specs.Plans.{Found, Sight, answer_in, found_from}
use Rattle.machine_model.specs.declared.acts.Want.{Want}
use Rattle.wish_sets.specs.Places.{key_by}
use Rattle.wish_sets.specs.Wanted.{Wanted}
use Rattle.wish_sets.specs.Wished.{is_named, is_watched}

-- What is heard of a class --------------------------------------------------------------------------------------------

-- a fact that was learnt, or else what is read off from its reply
abbrev pub known_or : {A : Type 0} → Option A → (Option Answer → A) → Option Found → Option A
known_or (Some fact) read found = Some fact
known_or None read None = None
known_or None read (Some found) = Some (read (answer_in found.replied))

abbrev pub source_heard : Sight → ClassId → Option (Option (List ℕ))
source_heard sight class =
    known_or (sight.classes.source class) source_in (found_from 0 sight.asked (questions.SourceFile class))

abbrev pub methods_heard : Sight → ClassId → Option (List Method)
methods_heard sight class =
    known_or (sight.classes.methods class) methods_in (found_from 0 sight.asked (questions.Methods class))

abbrev pub lines_question : ClassId → MethodId → Question
lines_question class method = questions.LineTable class method

abbrev pub lines_heard : Sight → ClassId → MethodId → Option (Option LineTable)
lines_heard sight class method =
    known_or (sight.classes.lines class method) lines_in (found_from 0 sight.asked (lines_question class method))

-- What is lacking of it -----------------------------------------------------------------------------------------------

-- what a class lacks, and the class itself where it is found once nothing is lacking
pub record ClassNeed : Type 0 where
  pub lacking : List Want
  pub found : List ClassId

abbrev pub passed_over : ClassNeed
passed_over = record { lacking = []; found = [] }

abbrev pub lacks_fact : Question → ClassNeed
lacks_fact question = record { lacking = Want.Fact question ∷ []; found = [] }

abbrev pub unless_heard : {A : Type 0} → Option A → Question → List Want
unless_heard None question = Want.Fact question ∷ []
unless_heard (Some fact) question = []

-- the lines of a method
abbrev pub lines_lacking : Sight → ClassId → MethodId → List Want
lines_lacking sight class method = unless_heard (lines_heard sight class method) (lines_question class method)

-- of its methods the lines of those that count
abbrev pub methods_need : Sight → Bool → Wanted → ClassId → List ℕ → Option (List Method) → ClassNeed
methods_need sight keyed wanted class signature None = lacks_fact (questions.Methods class)
methods_need sight keyed wanted class signature (Some methods) = record {
  lacking = flat_map (λ method. lines_lacking sight class method.id) (filter (counts keyed wanted signature) methods);
  found = class ∷ [];
}

-- a class whose source is listed, or that a function names
abbrev pub bound_need : Sight → Bool → Bool → Wanted → ClassId → List ℕ → ClassNeed
bound_need sight false keyed wanted class signature = passed_over
bound_need sight true keyed wanted class signature =
    methods_need sight keyed wanted class signature (methods_heard sight class)

abbrev pub keyed_need : Sight → Bool → Wanted → ClassId → List ℕ → ClassNeed
keyed_need sight keyed wanted class signature =
    bound_need sight (keyed || is_named wanted signature None) keyed wanted class signature

-- its methods beside its source, where a function names the class
abbrev pub early_lacking : Bool → ClassId → Option (List Method) → List Want
early_lacking false class methods = []
early_lacking true class methods = unless_heard methods (questions.Methods class)

abbrev pub source_need : Sight → Wanted → ClassId → List ℕ → Option (Option (List ℕ)) → ClassNeed
source_need sight wanted class signature None = record {
  lacking = Want.Fact (questions.SourceFile class)
      ∷ early_lacking (is_named wanted signature None) class (methods_heard sight class);
  found = [];
}
source_need sight wanted class signature (Some source) =
    keyed_need sight (is_keyed wanted (key_by signature source)) wanted class signature

abbrev pub signed_need : Sight → Wanted → ClassId → Option (List ℕ) → ClassNeed
signed_need sight wanted class None = passed_over
signed_need sight wanted class (Some signature) = source_need sight wanted class signature (source_heard sight class)

-- the signature of a class in a package that is watched
abbrev pub watched_by : Wanted → List ℕ → Option (List ℕ) → Option (List ℕ)
watched_by wanted signature None = None
watched_by wanted signature (Some path) = cond (is_watched wanted path) (Some signature) None

-- that of a class that is prepared, too
abbrev pub watched_in : Wanted → Option Loaded → Option (List ℕ)
watched_in wanted None = None
watched_in wanted (Some loaded) =
    cond loaded.prepared (watched_by wanted loaded.signature (package_in loaded.signature)) None

abbrev pub class_need : Sight → Wanted → ClassId → ClassNeed
class_need sight wanted class = signed_need sight wanted class (watched_in wanted (sight.classes.loaded class))

-- of all classes, in order
abbrev pub all_lacking : Sight → Wanted → List ClassId → List Want
all_lacking sight wanted classes = flat_map (λ class. (class_need sight wanted class).lacking) classes

abbrev pub all_found : Sight → Wanted → List ClassId → List ClassId
all_found sight wanted classes = flat_map (λ class. (class_need sight wanted class).found) classes

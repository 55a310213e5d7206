-- What tables have that are so in a world is what a target replies that has this world.
use Rattle.std.proofs.Common.{◌≡◌, ◌∙◌, ◌<◌, ℕ, Bool, true, false, cond, List, [], refl, sym, ap, arith, Option}
use Rattle.std.proofs.Common.{Some, None, option_map}
use Rattle.std.specs.Prelude.{codes, is_some, ok_or, pos, Ok, ◌==◌}
use Rattle.std.specs.Option.{option_map_or}
use Rattle.std.proofs.lemmas.Bool.{eqb-true, ne_eqb}
use Rattle.class_tables.specs.Facts.{Known, same_class, same_method}
use Rattle.class_tables.specs.Lookups.{found_in}
use Rattle.class_tables.specs.Tables.{under}
use Rattle.class_tables.specs.declared.loaded.Loaded.{Loaded}
use Rattle.jdwp_commands.specs.declared.answer.Answer.TheVariants as answers
use Rattle.jdwp_commands.specs.declared.question.Question.TheVariants as questions
use Rattle.jdwp_values.specs.declared.id.ClassId.{ClassId}
use Rattle.joint_facts.specs.Facts.{AreClassesOf, above_of, fields_of, lines_of, methods_of, source_file, variables_of}
use Rattle.machine_model.specs.Facts as heard
use Rattle.machine_model.specs.Facts.{fact_known, fact_of}
use Rattle.machine_model.specs.Names.{Answer, Question, an_error}
use Rattle.machine_model.specs.Plans.{answer_in}
use Rattle.shown_worlds.proofs.RowLemmas.{found_all, found_passes}
use Rattle.world_model.specs.Classes as rows
use Rattle.world_model.specs.Classes.{class_in, has_class, is_threads_class}
use Rattle.world_model.specs.Codes.{invalid_class, told, vm_dead}
use Rattle.world_model.specs.Emitting.{signature_of}
use Rattle.world_model.specs.Replies.{living_reply, reply_of}
use Rattle.world_model.specs.declared.rows.WorldClass.{WorldClass}
use Rattle.world_model.specs.declared.world.World.{World}
use Rattle.joint_facts.proofs.WorldFacts.{IsKeyed, above_heard, above_null_each, fields_heard, lines_heard}
use Rattle.joint_facts.proofs.WorldFacts.{methods_heard, source_heard, variables_heard}

-- a fact that is known is the one that is there
known_as : {A : Type 0} (answer : A → Option Answer) (known : Option A) (there : A) (fact : Option Answer)
    → ((found : A) → known ≡ Some found → found ≡ there) → option_map answer known ≡ Some fact → fact ≡ answer there
known_as answer None there fact all is = absurd cc
known_as answer (Some found) there fact all is =
    let same : answer found ≡ fact = cc in sym same ∙ ap answer (all found refl)

-- a class that is there isn't that of threads
not_null : (w : World) (class : ClassId) (row : WorldClass) → IsKeyed w → class_in w class ≡ Some row
    → is_threads_class class ≡ false
not_null w class row keyed is =
    let above = found_all (λ (row : WorldClass). 0 < row.id.0) (λ (row : WorldClass). row.id.0 == class.0) w.classes
    (above_null_each w.classes keyed.no_null) row is in
    let same = eqb-true row.id.0 class.0
    (found_passes (λ (row : WorldClass). row.id.0 == class.0) w.classes row is) in
    ne_eqb class.0 0 (λ null. omega (arith, above, same, null))

signature_there : (w : World) (class : ClassId) → IsKeyed w → has_class w class ≡ true
    → heard.signature_in (answer_in (told answers.Signature (rows.signature_in w class))) ≡ signature_of w class
signature_there w class keyed there = by (class_in w class) refl there where
  by : (found : Option WorldClass) → class_in w class ≡ found → is_some found ≡ true
      → heard.signature_in (answer_in (told answers.Signature (cond (is_threads_class class)
      (Ok (codes "Ljava/lang/Thread;"))
      (ok_or (option_map (λ (row : WorldClass). row.signature) found) invalid_class))))
      ≡ option_map_or (λ (row : WorldClass). row.signature) found []
  by None is there = absurd cc
  by (Some row) is there = ap (λ (threads : Bool). heard.signature_in (answer_in (told answers.Signature (cond threads
      (Ok (codes "Ljava/lang/Thread;")) (Ok row.signature))))) (not_null w class row keyed is)

module _ (w : World) (known : Known) (keyed : IsKeyed w) (are : AreClassesOf w (found_in known)) where
  signature_from : (class : ClassId) (fact : Option Answer)
      → fact_known (found_in known) (questions.Signature class) ≡ Some fact
      → fact ≡ fact_of (questions.Signature class) (answer_in (living_reply w (questions.Signature class)))
  signature_from class fact is = by (under same_class class known.loaded) refl is where
    by : (found : Option Loaded) → under same_class class known.loaded ≡ found
        → option_map (λ (loaded : Loaded). Some (answers.Signature loaded.signature)) found ≡ Some fact
        → fact ≡ fact_of (questions.Signature class) (answer_in (living_reply w (questions.Signature class)))
    by None there is = absurd cc
    by (Some loaded) there is =
        let class_of = are.loaded class loaded there in
        let same : ◌≡◌ {A = Option Answer} (Some (answers.Signature loaded.signature)) fact = cc in
        sym same ∙ ap (λ (signature : List ℕ). Some (answers.Signature signature))
        (sym class_of.signature ∙ sym (signature_there w class keyed class_of.there))

  living_facts : (question : Question) (fact : Option Answer) → fact_known (found_in known) question ≡ Some fact
      → fact ≡ fact_of question (answer_in (living_reply w question))
  living_facts (questions.Signature class) fact is = signature_from class fact is
  living_facts (questions.SourceFile class) fact is =
      known_as (option_map answers.SourceFile) (under same_class class known.sources) (source_file w class) fact
      (are.source class) is ∙ ap (option_map answers.SourceFile) (sym (source_heard (rows.source_in w class)))
  living_facts (questions.Methods class) fact is =
      known_as (λ found. Some (answers.Methods found)) (under same_class class known.methods) (methods_of w class) fact
      (are.methods class) is
      ∙ ap (λ found. Some (answers.Methods found)) (sym (methods_heard (rows.methods_in w class)))
  living_facts (questions.Fields class) fact is =
      known_as (λ found. Some (answers.Fields found)) (under same_class class known.fields) (fields_of w class) fact
      (are.fields class) is ∙ ap (λ found. Some (answers.Fields found)) (sym (fields_heard (rows.fields_in w class)))
  living_facts (questions.Superclass class) fact is =
      known_as (λ above. Some (answers.Superclass above)) (under same_class class known.supers) (above_of w class) fact
      (are.above class) is ∙ ap (λ above. Some (answers.Superclass above)) (sym (above_heard (rows.above_in w class)))
  living_facts (questions.LineTable class method) fact is =
      known_as (option_map answers.LineTable) (under same_method (class, method) known.lines) (lines_of w class method)
      fact (are.lines class method) is
      ∙ ap (option_map answers.LineTable) (sym (lines_heard (rows.lines_in w class method)))
  living_facts (questions.VariableTable class method) fact is =
      known_as (option_map (answers.VariableTable (pos 0))) (under same_method (class, method) known.variables)
      (variables_of w class method) fact (are.variables class method) is
      ∙ ap (option_map (answers.VariableTable (pos 0))) (sym (variables_heard (rows.variables_in w class method)))
  living_facts _ fact is = absurd cc

pub facts_from : (w : World) (known : Known) → w.dead ≡ false → IsKeyed w → AreClassesOf w (found_in known)
    → (question : Question) (fact : Option Answer) → fact_known (found_in known) question ≡ Some fact
    → fact ≡ fact_of question (answer_in (reply_of w question))
facts_from w known lives keyed are question fact is = living_facts w known keyed are question fact is
    ∙ sym (ap (λ (dead : Bool). fact_of question (answer_in (cond dead (an_error vm_dead) (living_reply w question))))
    lives)

-- What is said of classes in a world: it stays while the world goes on, and a target's replies say just that.
use Rattle.std.proofs.Common.{◌≡◌, ◌∙◌, ◌<◌, ℕ, Bool, true, false, cond, List, [], ◌∷◌, map, refl, sym, ap, subst}
use Rattle.std.proofs.Common.{Option, Some, None, option_map, nat_eq}
use Rattle.std.specs.Prelude.{find, is_some, ok_or, pos, Result, Ok, Err, ◌==◌}
use Rattle.std.specs.List.{AllByRecursion, IsDistinct}
use Rattle.std.specs.Option.{option_map_or}
use Rattle.std.specs.Result.{result_ok, result_unwrap_or}
use Rattle.class_tables.specs.Facts.{Fact, has_fields, has_lines, has_methods, has_source, has_variables, is_below}
use Rattle.class_tables.specs.Facts.{is_loaded}
use Rattle.jdwp_commands.specs.declared.answer.Answer.TheVariants as answers
use Rattle.jdwp_commands.specs.declared.question.Question.TheVariants as questions
use Rattle.jdwp_values.specs.declared.class.Field.{Field}
use Rattle.jdwp_values.specs.declared.class.LineTable.{LineTable}
use Rattle.jdwp_values.specs.declared.class.Method.{Method}
use Rattle.jdwp_values.specs.declared.class.Variable.{Variable}
use Rattle.jdwp_values.specs.declared.id.ClassId.{ClassId}
use Rattle.jdwp_values.specs.declared.id.MethodId.{MethodId}
use Rattle.jdwp_values.specs.declared.tag.TypeTag.TheVariants as type_tags
use Rattle.joint_facts.specs.Facts.{IsClassOf, above_of, fields_of, lines_of, methods_of, source_file, variables_of}
use Rattle.joint_model.specs.Obeying.{Replies}
use Rattle.machine_model.specs.Classes.{has_prepared}
use Rattle.machine_model.specs.Facts as heard
use Rattle.machine_model.specs.Knowing.{class_said, facts_said, says_dead}
use Rattle.machine_model.specs.Names.{Answer, Question, Replied, an_answer, an_error}
use Rattle.machine_model.specs.Plans.{answer_in}
use Rattle.shown_worlds.proofs.RowLemmas.{IsOwn, own_keys}
use Rattle.world_model.specs.Classes as rows
use Rattle.world_model.specs.Classes.{class_in, has_class, is_threads_class, loaded_class, source_of, tag_in}
use Rattle.world_model.specs.Codes.{invalid_class, not_implemented, told, vm_dead}
use Rattle.world_model.specs.Emitting.{signature_of}
use Rattle.world_model.specs.MoveFacts.{Facts, class_facts, facts_of, is_prepared}
use Rattle.world_model.specs.Replies.{living_reply, reply_of}
use Rattle.world_model.specs.Sound.{IsSound}
use Rattle.world_model.specs.declared.rows.WorldClass.{WorldClass}
use Rattle.world_model.specs.declared.world.World.{World}

-- One fact ------------------------------------------------------------------------------------------------------------

-- a fact of a class is so in a world
abbrev pub IsSo : World → Fact → Type 0
IsSo w (is_loaded class tag signature prepared) =
    IsClassOf w class (record { tag = tag; signature = signature; prepared = prepared })
IsSo w (has_source class source) = source ≡ source_file w class
IsSo w (has_methods class methods) = methods ≡ methods_of w class
IsSo w (has_lines class method lines) = lines ≡ lines_of w class method
IsSo w (has_variables class method variables) = variables ≡ variables_of w class method
IsSo w (has_fields class fields) = fields ≡ fields_of w class
IsSo w (is_below class above) = above ≡ above_of w class

-- A world goes on ----------------------------------------------------------------------------------------------------

-- What is said of classes stays, and so does each class that is prepared.
pub record GoesOn (w now : World) : Type 0 where
  pub facts : facts_of now ≡ facts_of w
  pub prepared : (class : ClassId) → is_prepared w class ≡ true → is_prepared now class ≡ true

-- a world that has these facts, and nothing else
abbrev world_by : Facts → World
world_by facts = record {
  sizes = facts.sizes;
  classes = facts.classes;
  methods = facts.methods;
  variables = facts.variables;
  fields = facts.fields;
  objects = [];
  arrays = [];
  strings = [];
  puts = [];
  threads = [];
  frames = [];
  requests = [];
  steps = [];
  next_request = 1;
  count = 0;
  dead = false;
}

-- what the facts alone decide is so behind them as before
alike : {A : Type 0} (of : World → A) → ((w : World) → of (world_by (facts_of w)) ≡ of w) → {w now : World}
    → GoesOn w now → of now ≡ of w
alike of is {w} {now} on = sym (is now) ∙ ap (λ (facts : Facts). of (world_by facts)) on.facts ∙ is w

found_alike : (classes : List WorldClass) (class : ClassId)
    → find (λ (row : WorldClass). row.id.0 == class.0) (map class_facts classes)
    ≡ option_map class_facts (find (λ (row : WorldClass). row.id.0 == class.0) classes)
found_alike [] class = refl
found_alike (row ∷ classes) class = by (row.id.0 == class.0) (found_alike classes class) where
  by : (b : Bool) → find (λ (row : WorldClass). row.id.0 == class.0) (map class_facts classes)
      ≡ option_map class_facts (find (λ (row : WorldClass). row.id.0 == class.0) classes)
      → cond b (Some (class_facts row)) (find (λ (row : WorldClass). row.id.0 == class.0) (map class_facts classes))
      ≡ option_map class_facts (cond b (Some row) (find (λ (row : WorldClass). row.id.0 == class.0) classes))
  by true later = refl
  by false later = later

-- what is said of a class that was found doesn't look at whether it is prepared
class_alike : {A : Type 0} (of : Option WorldClass → A)
    → ((row : WorldClass) → of (Some (class_facts row)) ≡ of (Some row)) → (w : World) (class : ClassId)
    → of (class_in (world_by (facts_of w)) class) ≡ of (class_in w class)
class_alike of same w class = ap of (found_alike w.classes class) ∙ by (class_in w class) where
  by : (found : Option WorldClass) → of (option_map class_facts found) ≡ of found
  by None = refl
  by (Some row) = same row

has_alike : (class : ClassId) (w : World) → has_class (world_by (facts_of w)) class ≡ has_class w class
has_alike class w = class_alike is_some (λ row. refl) w class

tag_alike : (class : ClassId) (w : World) → tag_in (world_by (facts_of w)) class ≡ tag_in w class
tag_alike class w =
    class_alike (λ found. option_map_or (λ (row : WorldClass). row.tag) found type_tags.Nothing) (λ row. refl) w class

signature_alike : (class : ClassId) (w : World) → signature_of (world_by (facts_of w)) class ≡ signature_of w class
signature_alike class w =
    class_alike (λ found. option_map_or (λ (row : WorldClass). row.signature) found []) (λ row. refl) w class

source_alike : (class : ClassId) (w : World) → source_file (world_by (facts_of w)) class ≡ source_file w class
source_alike class w = class_alike (λ found. result_ok (source_of found)) (λ row. refl) w class

methods_alike : (class : ClassId) (w : World) → methods_of (world_by (facts_of w)) class ≡ methods_of w class
methods_alike class w =
    ap (λ there. result_unwrap_or (cond there (Ok (rows.methods_of w class)) (Err invalid_class)) [])
    (has_alike class w)

lines_alike : (class : ClassId) (method : MethodId) (w : World)
    → lines_of (world_by (facts_of w)) class method ≡ lines_of w class method
lines_alike class method w =
    ap (λ there. result_ok (rows.and_then rows.lines_of
    (cond there (ok_or (rows.method_in w class method) not_implemented) (Err invalid_class)))) (has_alike class w)

variables_alike : (class : ClassId) (method : MethodId) (w : World)
    → variables_of (world_by (facts_of w)) class method ≡ variables_of w class method
variables_alike class method w =
    ap (λ there. result_ok (rows.and_then (λ row. rows.some_variables (rows.variables_of w class method))
    (cond there (ok_or (rows.method_in w class method) not_implemented) (Err invalid_class)))) (has_alike class w)

fields_alike : (class : ClassId) (w : World) → fields_of (world_by (facts_of w)) class ≡ fields_of w class
fields_alike class w =
    ap (λ there. result_unwrap_or (cond (is_threads_class class) (Ok [])
    (cond there (Ok (rows.fields_of w class)) (Err invalid_class))) []) (has_alike class w)

above_alike : (class : ClassId) (w : World) → above_of (world_by (facts_of w)) class ≡ above_of w class
above_alike class w =
    class_alike (λ found. result_unwrap_or (cond (is_threads_class class) (Ok class)
    (ok_or (option_map (λ (row : WorldClass). row.above) found) invalid_class)) (record { 0 = 0 })) (λ row. refl) w
    class

-- each fact stays so
pub stays_so : {w now : World} → GoesOn w now → (fact : Fact) → IsSo w fact → IsSo now fact
stays_so on (is_loaded class tag signature prepared) is = record {
  there = alike (λ w. has_class w class) (has_alike class) on ∙ is.there;
  tag = alike (λ w. tag_in w class) (tag_alike class) on ∙ is.tag;
  signature = alike (λ w. signature_of w class) (signature_alike class) on ∙ is.signature;
  prepared = λ known. on.prepared class (is.prepared known);
}
stays_so on (has_source class source) is = is ∙ sym (alike (λ w. source_file w class) (source_alike class) on)
stays_so on (has_methods class methods) is = is ∙ sym (alike (λ w. methods_of w class) (methods_alike class) on)
stays_so on (has_lines class method lines) is =
    is ∙ sym (alike (λ w. lines_of w class method) (lines_alike class method) on)
stays_so on (has_variables class method variables) is =
    is ∙ sym (alike (λ w. variables_of w class method) (variables_alike class method) on)
stays_so on (has_fields class fields) is = is ∙ sym (alike (λ w. fields_of w class) (fields_alike class) on)
stays_so on (is_below class above) is = is ∙ sym (alike (λ w. above_of w class) (above_alike class) on)

-- Ids of classes ------------------------------------------------------------------------------------------------------

abbrev ids_of : List WorldClass → List ℕ
ids_of classes = map (λ (row : WorldClass). row.id.0) classes

-- classes have ids of their own, and none has that of null
pub record IsKeyed (w : World) : Type 0 where
  pub distinct : IsDistinct nat_eq (ids_of w.classes)
  pub no_null : AllByRecursion (λ (n : ℕ). 0 < n) (ids_of w.classes)

above_null : (classes : List WorldClass) → AllByRecursion (λ (row : WorldClass). 0 < row.id.0) classes
    → AllByRecursion (λ (n : ℕ). 0 < n) (ids_of classes)
above_null [] are = tt
above_null (row ∷ classes) are = (are.0, above_null classes are.1)

pub above_null_each : (classes : List WorldClass) → AllByRecursion (λ (n : ℕ). 0 < n) (ids_of classes)
    → AllByRecursion (λ (row : WorldClass). 0 < row.id.0) classes
above_null_each [] are = tt
above_null_each (row ∷ classes) are = (are.0, above_null_each classes are.1)

pub sound_keyed : (w : World) → IsSound w → IsKeyed w
sound_keyed w sound = record {
  distinct = sound.program.classes;
  no_null = above_null w.classes sound.program.no_null;
}

ids_alike : (classes : List WorldClass) → ids_of (map class_facts classes) ≡ ids_of classes
ids_alike [] = refl
ids_alike (row ∷ classes) = ap (λ (ids : List ℕ). row.id.0 ∷ ids) (ids_alike classes)

pub stays_keyed : {w now : World} → GoesOn w now → IsKeyed w → IsKeyed now
stays_keyed {w} {now} on keyed =
    let same = alike (λ (w : World). ids_of w.classes) (λ w. ids_alike w.classes) on in record {
      distinct = subst (λ (ids : List ℕ). IsDistinct nat_eq ids) (sym same) keyed.distinct;
      no_null = subst (λ (ids : List ℕ). AllByRecursion (λ (n : ℕ). 0 < n) ids) (sym same) keyed.no_null;
    }

-- Replies -------------------------------------------------------------------------------------------------------------

pub source_heard : (r : Result (List ℕ) ℕ) → heard.source_in (answer_in (told answers.SourceFile r)) ≡ result_ok r
source_heard (Ok found) = refl
source_heard (Err code) = refl

pub methods_heard : (r : Result (List Method) ℕ)
    → heard.methods_in (answer_in (told answers.Methods r)) ≡ result_unwrap_or r []
methods_heard (Ok found) = refl
methods_heard (Err code) = refl

pub lines_heard : (r : Result LineTable ℕ) → heard.lines_in (answer_in (told answers.LineTable r)) ≡ result_ok r
lines_heard (Ok found) = refl
lines_heard (Err code) = refl

pub variables_heard : (r : Result (List Variable) ℕ)
    → heard.variables_in (answer_in (told (answers.VariableTable (pos 0)) r)) ≡ result_ok r
variables_heard (Ok found) = refl
variables_heard (Err code) = refl

pub fields_heard : (r : Result (List Field) ℕ)
    → heard.fields_in (answer_in (told answers.Fields r)) ≡ result_unwrap_or r []
fields_heard (Ok found) = refl
fields_heard (Err code) = refl

pub above_heard : (r : Result ClassId ℕ)
    → heard.above_in (answer_in (told answers.Superclass r)) ≡ result_unwrap_or r (record { 0 = 0 })
above_heard (Ok found) = refl
above_heard (Err code) = refl

-- a class that is listed is there so
listed_prepared : (prepared : Bool) → has_prepared (cond prepared (pos 2) (pos 0)) ≡ true → prepared ≡ true
listed_prepared true is = refl
listed_prepared false is = absurd cc

listed_so : (w : World) (row : WorldClass) → IsOwn (λ (row : WorldClass). row.id.0) w.classes row
    → IsSo w (class_said (loaded_class row))
listed_so w row own = record {
  there = ap is_some own;
  tag = ap (λ found. option_map_or (λ (row : WorldClass). row.tag) found type_tags.Nothing) own;
  signature = ap (λ found. option_map_or (λ (row : WorldClass). row.signature) found []) own;
  prepared = λ known. ap (λ found. option_map_or (λ (row : WorldClass). row.prepared) found false) own
      ∙ listed_prepared row.prepared known;
}

all_listed : (w : World) (classes : List WorldClass)
    → AllByRecursion (IsOwn (λ (row : WorldClass). row.id.0) w.classes) classes
    → AllByRecursion (IsSo w) (map class_said (map loaded_class classes))
all_listed w [] own = tt
all_listed w (row ∷ classes) own = (listed_so w row own.0, all_listed w classes own.1)

living_so : (w : World) (question : Question) → IsKeyed w
    → AllByRecursion (IsSo w) (facts_said question (answer_in (living_reply w question)))
living_so w questions.AllClasses keyed =
    all_listed w w.classes (own_keys (λ (row : WorldClass). row.id.0) w.classes keyed.distinct)
living_so w (questions.SourceFile class) keyed = (source_heard (rows.source_in w class), tt)
living_so w (questions.Methods class) keyed = (methods_heard (rows.methods_in w class), tt)
living_so w (questions.Fields class) keyed = (fields_heard (rows.fields_in w class), tt)
living_so w (questions.Superclass class) keyed = (above_heard (rows.above_in w class), tt)
living_so w (questions.LineTable class method) keyed = (lines_heard (rows.lines_in w class method), tt)
living_so w (questions.VariableTable class method) keyed = (variables_heard (rows.variables_in w class method), tt)
living_so w _ keyed = tt

-- whichever error the target chose, the world refuses
answered_alike : {w : World} {question : Question} {replied : Replied} → Replies w question replied
    → answer_in replied ≡ answer_in (reply_of w question)
answered_alike (Replies.says is) = ap answer_in (sym is)
answered_alike (Replies.refuses is may) = ap answer_in (sym is)

-- a target that has ended says so
dead_said : {w : World} {question : Question} {replied : Replied} → Replies w question replied → w.dead ≡ true
    → says_dead replied ≡ true
dead_said {w} {question} (Replies.says {answer} is) dead = absurd (let no : an_error vm_dead ≡ an_answer answer =
    sym (ap (λ (dead : Bool). cond dead (an_error vm_dead) (living_reply w question)) dead) ∙ is in cc)
dead_said {w} {question} (Replies.refuses {usual} {code} is may) dead =
    let same : ◌≡◌ {A = Replied} (an_error vm_dead) (an_error usual) =
    sym (ap (λ (dead : Bool). cond dead (an_error vm_dead) (living_reply w question)) dead) ∙ is in
    let number : vm_dead ≡ usual = cc in may.ended ∙ sym (ap (λ (n : ℕ). n == vm_dead) number)

-- what a target replies of classes is so, unless it says that it has ended
pub replied_so : {w : World} {question : Question} {replied : Replied} → IsKeyed w → Replies w question replied
    → says_dead replied ≡ false → AllByRecursion (IsSo w) (facts_said question (answer_in replied))
replied_so {w} {question} {replied} keyed replies living = by_end w.dead refl where
  by_end : (dead : Bool) → w.dead ≡ dead → AllByRecursion (IsSo w) (facts_said question (answer_in replied))
  by_end true is = let no : true ≡ false = sym (dead_said replies is) ∙ living in absurd cc
  by_end false is =
      let same = answered_alike replies
      ∙ ap (λ (dead : Bool). answer_in (cond dead (an_error vm_dead) (living_reply w question))) is in
      subst (λ (answer : Option Answer). AllByRecursion (IsSo w) (facts_said question answer)) (sym same)
      (living_so w question keyed)

-- How a class stands hangs on the lists, the functions, and what was learnt of its signature, source, methods and lines:
-- where these are alike, classes that are left out still lack nothing, or aren't found.
use Rattle.std.proofs.Common.{◌≡◌, ℕ, Bool, true, false, cond, ◌||◌, List, [], ◌∷◌, Option, Some, None}
use Rattle.std.proofs.Common.{refl, sym, ap, ◌∙◌, filter, map, subst}
use Rattle.std.specs.Prelude.{◌++◌, IfSome, is_some}
use Rattle.std.specs.List.{list_all, list_any}
use Rattle.class_tables.specs.Facts.{Known}
use Rattle.class_tables.specs.Lookups.{Lookups, found_in}
use Rattle.class_tables.specs.Signatures.{package_in}
use Rattle.class_tables.specs.Views.{Key}
use Rattle.class_tables.specs.declared.loaded.Loaded.{Loaded}
use Rattle.jdwp_commands.specs.declared.asked.Replied.{Replied}
use Rattle.jdwp_values.specs.declared.class.LineTable.{LineTable}
use Rattle.jdwp_values.specs.declared.class.Method.{Method}
use Rattle.jdwp_values.specs.declared.id.ClassId.{ClassId}
use Rattle.jdwp_values.specs.declared.id.MethodId.{MethodId}
use Rattle.machine_model.specs.Classes.{counts, is_keyed}
use Rattle.machine_model.specs.Names.{an_answer, an_error}
use Rattle.machine_model.specs.Requests.{cleared_by, request_in, set_to, wishes_after}
use Rattle.machine_model.specs.declared.acts.Effect.{Effect}
use Rattle.machine_model.specs.declared.acts.Effect.TheVariants.{Clear, Does, Set}
use Rattle.session_facts.specs.ClassPlanning.{watched_by, watched_in}
use Rattle.session_facts.specs.OpenClasses.{AreLeft, AreOpen, bound_standing, class_standing, keyed_standing}
use Rattle.session_facts.specs.OpenClasses.{lines_standing, may_be_found, may_lack, methods_standing}
use Rattle.session_facts.specs.OpenClasses.{signed_standing, source_standing}
use Rattle.session_facts.specs.declared.open_classes.OpenClasses.{OpenClasses}
use Rattle.wish_sets.specs.Places.{key_by}
use Rattle.wish_sets.specs.Wanted.{Wanted, with_class, with_exceptions, with_known, with_step}
use Rattle.wish_sets.specs.Wished.{is_named, is_watched, names}
use Rattle.wish_sets.specs.Wishes.{Wishes, rewished}
use Rattle.wish_sets.specs.declared.entry.FunctionEntry.{FunctionEntry}
use Rattle.wish_sets.specs.declared.entry.LineEntry.{LineEntry}
use Rattle.wish_sets.specs.declared.wish.StepWish.{StepWish}

-- the lists, the functions and the facts beside the signature are the same
pub record AreAlike (wanted later : Wanted) (known after : Lookups) : Type 0 where
  pub lists : later.lists ≡ wanted.lists
  pub functions : later.functions ≡ wanted.functions
  pub source : after.source ≡ known.source
  pub methods : after.methods ≡ known.methods
  pub lines : after.lines ≡ known.lines

module _ (wanted later : Wanted) (known after : Lookups) (alike : AreAlike wanted later known after) where
  named : (signature : List ℕ) (method : Option (List ℕ))
      → is_named later signature method ≡ is_named wanted signature method
  named signature method =
      ap (λ (functions : List FunctionEntry). list_any (names signature method) functions) alike.functions

  watched : (path : List ℕ) → is_watched later path ≡ is_watched wanted path
  watched path =
      ap (λ (lists : List (List ℕ × List LineEntry)). is_watched (record later { lists = lists }) path) alike.lists
      ∙ ap (λ (functions : List FunctionEntry).
      is_watched (record wanted { functions = functions }) path) alike.functions

  keyed : (key : Option Key) → is_keyed later key ≡ is_keyed wanted key
  keyed None = refl
  keyed (Some key) = ap (λ (lists : List (List ℕ × List LineEntry)).
      is_keyed (record later { lists = lists }) (Some key)) alike.lists

  methods_alike : (keyed : Bool) (class : ClassId) (signature : List ℕ) (methods : Option (List Method))
      → methods_standing after keyed later class signature methods
      ≡ methods_standing known keyed wanted class signature methods
  methods_alike keyed class signature None = refl
  methods_alike keyed class signature (Some methods) =
      ap (λ (lines : ClassId → MethodId → Option (Option LineTable)).
      lines_standing (list_all (λ (method : Method). is_some (lines class method.id))
      (filter (counts keyed later signature) methods))) alike.lines
      ∙ ap (λ (functions : List FunctionEntry).
      lines_standing (list_all (λ (method : Method). is_some (known.lines class method.id))
      (filter (counts keyed (record wanted { functions = functions }) signature) methods))) alike.functions

  bound_alike : (bound keyed : Bool) (class : ClassId) (signature : List ℕ)
      → bound_standing after bound keyed later class signature
      ≡ bound_standing known bound keyed wanted class signature
  bound_alike false keyed class signature = refl
  bound_alike true keyed class signature =
      ap (λ (methods : ClassId → Option (List Method)).
      methods_standing after keyed later class signature (methods class)) alike.methods
      ∙ methods_alike keyed class signature (known.methods class)

  keyed_alike : (keyed : Bool) (class : ClassId) (signature : List ℕ)
      → keyed_standing after keyed later class signature ≡ keyed_standing known keyed wanted class signature
  keyed_alike keyed class signature =
      ap (λ (b : Bool). bound_standing after (keyed || b) keyed later class signature) (named signature None)
      ∙ bound_alike (keyed || is_named wanted signature None) keyed class signature

  source_alike : (class : ClassId) (signature : List ℕ) (source : Option (Option (List ℕ)))
      → source_standing later after class signature source ≡ source_standing wanted known class signature source
  source_alike class signature None = refl
  source_alike class signature (Some source) =
      ap (λ (b : Bool). keyed_standing after b later class signature) (keyed (key_by signature source))
      ∙ keyed_alike (is_keyed wanted (key_by signature source)) class signature

  pub signed_alike : (class : ClassId) (signature : Option (List ℕ))
      → signed_standing later after class signature ≡ signed_standing wanted known class signature
  signed_alike class None = refl
  signed_alike class (Some signature) =
      ap (λ (source : ClassId → Option (Option (List ℕ))).
      source_standing later after class signature (source class)) alike.source
      ∙ source_alike class signature (known.source class)

  by_path : (signature : List ℕ) (path : Option (List ℕ))
      → watched_by later signature path ≡ watched_by wanted signature path
  by_path signature None = refl
  by_path signature (Some path) = ap (λ (b : Bool). cond b (Some signature) None) (watched path)

  loaded_alike : (loaded : Option Loaded) → watched_in later loaded ≡ watched_in wanted loaded
  loaded_alike None = refl
  loaded_alike (Some loaded) = ap (λ (signature : Option (List ℕ)). cond loaded.prepared signature None)
      (by_path loaded.signature (package_in loaded.signature))

  class_alike : after.loaded ≡ known.loaded → (class : ClassId)
      → class_standing later after class ≡ class_standing wanted known class
  class_alike same class =
      ap (λ (loaded : ClassId → Option Loaded).
      signed_standing later after class (watched_in later (loaded class))) same
      ∙ ap (signed_standing later after class) (loaded_alike (known.loaded class))
      ∙ signed_alike class (watched_in wanted (known.loaded class))

  pub open_alike : after.loaded ≡ known.loaded → after.order ≡ known.order → (open_ones : OpenClasses)
      → AreOpen wanted known open_ones → AreOpen later after open_ones
  open_alike same order open_ones are = record {
    lacking = subst (λ (all : List ClassId).
        AreLeft (λ class. may_lack (class_standing later after class)) all open_ones.lacking) (sym order) (record {
          keeps = are.lacking.keeps;
          are = are.lacking.are;
          needless = λ class out. ap may_lack (class_alike same class) ∙ are.lacking.needless class out;
        });
    found = subst (λ (all : List ClassId).
        AreLeft (λ class. may_be_found (class_standing later after class)) all open_ones.found) (sym order) (record {
          keeps = are.found.keeps;
          are = are.found.are;
          needless = λ class out. ap may_be_found (class_alike same class) ∙ are.found.needless class out;
        });
  }

-- What is noted of anything but lists and functions -------------------------------------------------------------------

rewished_open : (wanted later : Wanted) (known : Known) (held : Option OpenClasses) → later.lists ≡ wanted.lists
    → later.functions ≡ wanted.functions → IfSome held (AreOpen wanted (found_in known))
    → IfSome held (AreOpen later (found_in known))
rewished_open wanted later known None lists functions h = tt
rewished_open wanted later known (Some open_ones) lists functions h =
    open_alike wanted later (found_in known) (found_in known)
    (record { lists = lists; functions = functions; source = refl; methods = refl; lines = refl }) refl refl open_ones h

-- a step
pub step_open : (w : Wishes) (step : Option StepWish) (known : Known) (held : Option OpenClasses)
    → IfSome held (AreOpen w.wanted (found_in known))
    → IfSome held (AreOpen (rewished (with_step step w.wanted) w).wanted (found_in known))
step_open w step known held h = rewished_open w.wanted (with_step step w.wanted) known held refl refl h

-- which exceptions stop
pub exceptions_open : (w : Wishes) (caught uncaught : Bool) (known : Known) (held : Option OpenClasses)
    → IfSome held (AreOpen w.wanted (found_in known))
    → IfSome held (AreOpen (rewished (with_exceptions caught uncaught w.wanted) w).wanted (found_in known))
exceptions_open w caught uncaught known held h =
    rewished_open w.wanted (with_exceptions caught uncaught w.wanted) known held refl refl h

-- classes that are made known
same_lists : (facts : Lookups) (those : List ClassId) (wanted : Wanted)
    → (with_known facts those wanted).lists ≡ wanted.lists
same_lists facts [] wanted = refl
same_lists facts (class ∷ others) wanted = same_lists facts others (with_class facts class wanted)

same_functions : (facts : Lookups) (those : List ClassId) (wanted : Wanted)
    → (with_known facts those wanted).functions ≡ wanted.functions
same_functions facts [] wanted = refl
same_functions facts (class ∷ others) wanted = same_functions facts others (with_class facts class wanted)

pub known_open : (w : Wishes) (facts : Lookups) (those : List ClassId) (known : Known) (held : Option OpenClasses)
    → IfSome held (AreOpen w.wanted (found_in known))
    → IfSome held (AreOpen (rewished (with_known facts those w.wanted) w).wanted (found_in known))
known_open w facts those known held h = rewished_open w.wanted (with_known facts those w.wanted) known held
    (same_lists facts those w.wanted) (same_functions facts those w.wanted) h

-- the reply to an effect
same_wanted : (effect : Effect) (replied : Replied) (w : Wishes) → (wishes_after effect replied w).wanted ≡ w.wanted
same_wanted (Set wish) replied w = by (request_in replied)
  where
    by : (request : Option ℕ) → (set_to request wish w).wanted ≡ w.wanted
    by None = refl
    by (Some request) = refl
same_wanted (Clear wish request) replied w = by replied
  where
    by : (reply : Replied) → (cleared_by reply wish w).wanted ≡ w.wanted
    by (an_answer answer) = refl
    by (an_error code) = refl
same_wanted (Does deed) replied w = refl

pub settled_open : (w : Wishes) (effect : Effect) (replied : Replied) (known : Known) (held : Option OpenClasses)
    → IfSome held (AreOpen w.wanted (found_in known))
    → IfSome held (AreOpen (wishes_after effect replied w).wanted (found_in known))
settled_open w effect replied known held h =
    subst (λ (wanted : Wanted). IfSome held (AreOpen wanted (found_in known))) (sym (same_wanted effect replied w)) h

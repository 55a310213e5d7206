-- A parse of a command whose values all have to be there has each of them, where it succeeds.
use Rattle.std.proofs.Common.{◌≡◌, ◌∙◌, ℕ, Bool, zero, suc, false, true, not, ◌&&◌, List, [], ◌∷◌, codes, refl, sym, arith}
use Rattle.std.proofs.Common.{ap, ap₂, map, fold, ◌≤◌, is_some, subst, inl, inr, true≢false, Option, Some, None}
use Rattle.std.specs.List.{All, AllByRecursion, list_any}
use Rattle.std.specs.Str.{bytes_eq}
use Rattle.std.proofs.lemmas.Slice.Eq.{bytes_eq-Decides}
use Rattle.clap.specs.Facts.{unwrap_or_range}
use Rattle.clap.specs.Walk.{Rule, is_empty, rule_of}
use Rattle.clap.specs.Simple.{app_of, with_rule}
use Rattle.clap.specs.Faults.{is_simple_and_free}
use Rattle.clap.specs.Built.{AddsArg, AddsInTurn, HasDistinctIds, IsParsedFrom, IsPlainArg}
use Rattle.clap.specs.Built.{TakesValue}
use Rattle.clap.specs.Matches.{first_value, found_of}
use Rattle.clap.specs.declared.builder.action.ArgAction.TheVariants.{Set}
use Rattle.clap.specs.declared.builder.arg.Arg.{Arg}
use Rattle.clap.specs.declared.builder.command.Command.{Command}
use Rattle.clap.specs.declared.parser.matches.ArgMatches.{ArgMatches}
use Rattle.clap.proofs.CallerLemmas.{required_in_chain}
use Rattle.clap.proofs.OnLiterals.{clap_on_literals}
use Rattle.std.proofs.lemmas.Bool.{and_parts, or_parts}
use Rattle.clap.proofs.SimpleLemmas.{is_false, is_nil}
use Rattle.command_words.specs.Forms.{Form, Part, bare_app, form_app, form_of, names_of, rule_for, rules_of}
use Rattle.command_words.specs.Words.{HasAll, IsBare}
use Rattle.command_words.specs.declared.forms.Kind.{Kind}
use Rattle.command_words.specs.declared.forms.Kind.TheVariants.{Serve, Script, Replay, Generate, Record, Dump}

-- no two of these names are one
abbrev apart : List (List ℕ) → Bool
apart [] = true
apart (name ∷ names) = not (list_any (bytes_eq name) names) && apart names

-- names, behind those that `clap` keeps for itself
abbrev beside_own : List (List ℕ) → List (List ℕ)
beside_own names = [] ∷ codes "help" ∷ codes "version" ∷ names

-- `clap` says what it makes of a form's words, and no value of the form is in the way of another
abbrev is_fit : Form → Bool
is_fit form = is_simple_and_free (form_app form) && apart (beside_own (names_of form))

pub all_fit : (kind : Kind) → is_fit (form_of kind) ≡ true
unfolding clap_on_literals
all_fit Serve = refl
all_fit Script = refl
all_fit Replay = refl
all_fit Generate = refl
all_fit Record = refl
all_fit Dump = refl

-- a rule of one value that has to be there
abbrev IsRequired : Rule → Type 0
IsRequired rule = (rule.is_simple ≡ true) × (rule.is_free ≡ true) × (rule.required ≡ true) × (rule.action ≡ Some Set)
    × (rule.range ≡ None)

all_required : (parts : List Part)
    → AllByRecursion IsRequired (map (λ part. rule_for part.name part.is_option) parts)
all_required [] = tt
all_required (part ∷ parts) = ((refl, refl, refl, refl, refl), all_required parts)

none_of : {A : Type 0} (option : Option A) → is_some option ≡ false → option ≡ None
none_of None none = refl
none_of (Some a) none = absurd (true≢false none)

-- what such a rule says of its argument
record IsTaken (arg : Arg) : Type 0 where
  pub plain : IsPlainArg arg
  pub local : arg.global ≡ false
  pub takes : TakesValue arg

is_taken : (arg : Arg) → IsRequired (rule_of arg) → IsTaken arg
is_taken arg (simple, free, required, set, range) =
    let lone = and_parts _ _ free in
    let overrides = and_parts _ _ simple in
    let defaults = and_parts (is_empty arg.default_vals_ifs.items) _ overrides.1 in
    let groups = and_parts _ _ defaults.1 in
    let delimiter = and_parts _ _ groups.1 in
    let terminator = and_parts (not (is_some arg.terminator)) _ delimiter.1 in
    let hyphens = and_parts (not arg.allow_hyphen_values) _ terminator.1 in
    let negatives = and_parts (not arg.allow_negative_numbers) _ hyphens.1 in
    let equals = and_parts (not arg.require_equals) _ negatives.1 in
    let last = and_parts (not arg.last) _ equals.1 in
    record {
      plain = (is_false _ lone.0, is_nil _ (and_parts _ _ lone.1).0, is_nil _ overrides.0, is_nil _ groups.0);
      local = is_false _ last.1;
      takes = (
        required,
        set,
        none_of _ (is_false _ delimiter.0),
        subst (λ range. 1 ≤ (unwrap_or_range range).start_inclusive) (sym range) (omega arith),
      );
    }

-- what holds of each such argument holds of all of these
each_taken : (P : Arg → Type 0) → ((arg : Arg) → IsTaken arg → P arg) → (args : List Arg)
    → AllByRecursion IsRequired (map rule_of args) → All P args
each_taken P holds [] are k d lt = absurd (omega arith)
each_taken P holds (arg ∷ args) (is, are) zero d lt = holds arg (is_taken arg is)
each_taken P holds (arg ∷ args) (is, are) (suc k) d lt = each_taken P holds args are k d (omega arith)

abbrev ids : List Arg → List (List ℕ)
ids args = map (λ arg. arg.id.now) args

id_by_id : {A : Type 0} (rule : A → Rule) (items : List A)
    → map (λ (rule : Rule). rule.id) (map rule items) ≡ map (λ item. (rule item).id) items
id_by_id rule [] = refl
id_by_id rule (item ∷ items) = ap (λ names. (rule item).id ∷ names) (id_by_id rule items)

-- a name that is apart from others is none of them
is_none_of : (name : List ℕ) (args : List Arg) → list_any (bytes_eq name) (ids args) ≡ false
    → All (λ arg. arg.id.now ≡ name → ⊥) args
is_none_of name [] other k d lt same = absurd (omega arith)
is_none_of name (arg ∷ args) other zero d lt same =
    true≢false (sym ((bytes_eq-Decides name arg.id.now).1 (sym same)) ∙ (or_parts _ _ other).0)
is_none_of name (arg ∷ args) other (suc k) d lt same =
    is_none_of name args (or_parts _ _ other).1 k d (omega arith) same

are_distinct : (args : List Arg) → apart (ids args) ≡ true → HasDistinctIds args
are_distinct [] differ j k d e below lt same = absurd (omega arith)
are_distinct (arg ∷ args) differ zero zero d e below lt same = refl
are_distinct (arg ∷ args) differ zero (suc k) d e below lt same =
    absurd (is_none_of arg.id.now args (is_false _ (and_parts _ _ differ).0) k d (omega arith)
    (sym ((bytes_eq-Decides _ _).0 same)))
are_distinct (arg ∷ args) differ (suc j) zero d e below lt same =
    absurd (is_none_of arg.id.now args (is_false _ (and_parts _ _ differ).0) j e (omega arith)
    ((bytes_eq-Decides _ _).0 same))
are_distinct (arg ∷ args) differ (suc j) (suc k) d e below lt same =
    ap suc (are_distinct args (and_parts _ _ differ).1 j k d e (omega arith) (omega arith) same)

given_by : (given : List ℕ → Option (List ℕ)) (args : List Arg) → All (λ arg. is_some (given arg.id.now) ≡ true) args
    → AllByRecursion (λ name. is_some (given name) ≡ true) (ids args)
given_by given [] all = tt
given_by given (arg ∷ args) all =
    (all 0 arg (omega arith), given_by given args (λ k d lt. all (suc k) d (omega arith)))

-- arguments that are added in turn add their rules
rules_added : (old new : Command) (args : List Arg) → AddsInTurn AddsArg old args new
    → All (λ arg. arg.global ≡ false) args → app_of new ≡ fold with_rule (app_of old) (map rule_of args)
rules_added old new [] same local = ap app_of (sym same)
rules_added old new (arg ∷ args) (middle, added, rest) local =
    rules_added middle new args rest (λ k d lt. local (suc k) d (omega arith))
    ∙ ap (λ app. fold with_rule app (map rule_of args)) (added.shape (local 0 arg (omega arith)))

-- what a command of a form is, and what a parse of it gives
pub record IsFormed (kind : Kind) (command : Command) : Type 0 where
  pub app : app_of command ≡ form_app (form_of kind)
  pub given : (m : ArgMatches) → IsParsedFrom command m → HasAll kind (first_value (found_of m))

pub formed : (kind : Kind) (name : List ℕ) (bare command : Command) (args : List Arg) → name ≡ (form_of kind).name
    → IsBare bare name → AddsInTurn AddsArg bare args command → map rule_of args ≡ rules_of (form_of kind)
    → IsFormed kind command
formed kind name bare command args named is chain rules =
    let own : ids args ≡ names_of (form_of kind) =
    sym (id_by_id rule_of args) ∙ ap (map (λ (rule : Rule). rule.id)) rules ∙ id_by_id _ (form_of kind).parts in
    let differ : apart (beside_own (ids args)) ≡ true = rw own (and_parts _ _ (all_fit kind)).1 in
    let are : AllByRecursion IsRequired (map rule_of args) = rw rules (all_required (form_of kind).parts) in
    let unnamed = and_parts _ _ differ in
    let helps = and_parts _ _ unnamed.1 in
    let versions = and_parts _ _ helps.1 in
    let local = each_taken (λ arg. arg.global ≡ false) (λ arg taken. taken.local) args are in
    let plain = each_taken IsPlainArg (λ arg taken. taken.plain) args are in
    let takes = each_taken TakesValue (λ arg taken. taken.takes) args are in
    let empty = is_none_of [] args (is_false _ unnamed.0) in
    let help = is_none_of (codes "help") args (is_false _ helps.0) in
    let version = is_none_of (codes "version") args (is_false _ versions.0) in
    record {
      app = rules_added bare command args chain local ∙ ap₂ (fold with_rule) (is.app ∙ ap bare_app named) rules;
      given = λ m parsed. subst (AllByRecursion (λ name. is_some (first_value (found_of m) name) ≡ true)) own
          (given_by (first_value (found_of m)) args (λ k d lt.
          required_in_chain bare command args k d m chain is.args is.groups is.globals is.negates
          (λ j e below. (
            plain j e below,
            local j e below,
            empty j e below,
            (λ auto. elim auto [
              | inl h ↦ help j e below h
              | inr h ↦ version j e below h
            ]),
          ))
          (are_distinct args versions.1) lt (takes k d lt) parsed));
    }

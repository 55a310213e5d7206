-- How the words of each command go, as the usage line shows it and as the crate `clap` reads them.
use Rattle.std.specs.Prelude.{ℕ, Bool, true, false, List, [], ◌∷◌, ◌++◌, codes, map, fold, find, flat_map, Option, Some, None}
use Rattle.std.specs.Prelude.{if◌then◌else◌, bytes_eq}
use Rattle.clap.specs.Words.{App, Kinds, Rule, fault_of, first_of, matches_of, new_app}
use Rattle.clap.specs.Words.{new_rule, with_rule}
use Rattle.clap.specs.Simple.{on_top}
use Rattle.clap.specs.declared.builder.action.ArgAction.TheVariants.{Set}
use Rattle.command_words.specs.declared.forms.Part.{Part as CodePart}
use Rattle.command_words.specs.declared.forms.Part.TheVariants.{Option as an_option, Value as a_value}
use Rattle.command_words.specs.declared.forms.Kind.{Kind}
use Rattle.command_words.specs.declared.forms.Kind.TheVariants.{Serve, Script, Replay, Generate, Record, Dump}

-- a value that a command has to be given: the name of it, and what stands for it in the usage line
pub record Part : Type 0 where
  pub name : List ℕ
  pub sign : List ℕ
  pub is_option : Bool

-- how the words of a command go: its name, and its values in the order of the usage line
pub record Form : Type 0 where
  pub name : List ℕ
  pub parts : List Part

-- the names of a form's values
abbrev pub names_of : Form → List (List ℕ)
names_of form = map (λ part. part.name) form.parts

-- a value that its name stands before
abbrev pub option : List ℕ → List ℕ → Part
option name sign = record { name = name; sign = sign; is_option = true }

-- a value that stands alone, so that only `clap` knows its name
abbrev pub value : List ℕ → List ℕ → Part
value name sign = record { name = name; sign = sign; is_option = false }

-- the words of each command
abbrev pub form_of : Kind → Form
form_of Serve = record {
  name = codes "serve";
  parts = option (codes "listen") (codes "A") ∷ option (codes "target") (codes "B") ∷ [];
}
form_of Script = record { name = codes "script"; parts = value (codes "file") (codes "FILE") ∷ [] }
form_of Replay = record { name = codes "replay"; parts = value (codes "file") (codes "LOG") ∷ [] }
form_of Generate = record {
  name = codes "generate";
  parts = value (codes "number") (codes "N") ∷ option (codes "out") (codes "FILE") ∷ [];
}
form_of Record = record {
  name = codes "record";
  parts = option (codes "listen") (codes "A") ∷ option (codes "target") (codes "B") ∷ option (codes "out") (codes "FILE")
      ∷ [];
}
form_of Dump = record { name = codes "dump"; parts = option (codes "target") (codes "B") ∷ [] }

-- the commands, in the order of the usage line
abbrev pub kinds : List Kind
kinds = Serve ∷ Script ∷ Replay ∷ Generate ∷ Record ∷ Dump ∷ []

-- the first of these commands that has this name
abbrev pub kind_in : List Kind → List ℕ → Option Kind
kind_in kinds name = find (λ kind. bytes_eq (form_of kind).name name) kinds

-- the command of this name
abbrev pub kind_named : List ℕ → Option Kind
kind_named name = kind_in kinds name

-- values, each behind the name of its option where it has one
abbrev pub words_with : List Part → List (List ℕ) → List (List ℕ)
words_with (part ∷ parts) (value ∷ values) =
    (if part.is_option then (codes "--" ++ part.name) ∷ [] else []) ++ value ∷ words_with parts values
words_with _ _ = []

-- the words of a command with these values
abbrev pub words_of : Form → List (List ℕ) → List (List ℕ)
words_of form values = form.name ∷ words_with form.parts values

-- what the usage line says of a command: its words, each behind a space
abbrev pub usage_of : Form → List ℕ
usage_of form = flat_map (λ word. codes " " ++ word) (words_of form (map (λ part. part.sign) form.parts))

-- what it says of these commands, with commas between them
abbrev pub usages : List Kind → List ℕ
usages [] = []
usages (kind ∷ []) = usage_of (form_of kind)
usages (kind ∷ kinds) = usage_of (form_of kind) ++ codes "," ++ usages kinds

-- the line that shows the words of each command
abbrev pub usage_line : List ℕ
usage_line = codes "usage: bridge" ++ usages kinds ++ codes "\n"

-- a value that has to be there, and the option of its name where it is one
abbrev pub rule_for : List ℕ → Bool → Rule
rule_for name is_option = record (new_rule name) {
  long = if is_option then Some name else None;
  action = Some Set;
  required = true;
}

-- such a value of the table in the code
abbrev pub rule_of_part : CodePart → Rule
rule_of_part (an_option name) = rule_for name.now true
rule_of_part (a_value name) = rule_for name.now false

-- the values of a form
abbrev pub rules_of : Form → List Rule
rules_of form = map (λ part. rule_for part.name part.is_option) form.parts

-- a command without the flags for help and version, which is given just the words behind its name
abbrev pub bare_app : List ℕ → App
bare_app name = on_top (λ s. record s {
  no_binary_name = true;
  disable_help_flag = true;
  disable_version_flag = true;
}) (new_app name)

-- the command of a form, as `clap` knows it
abbrev pub form_app : Form → App
form_app form = fold with_rule (bare_app form.name) (rules_of form)

-- the causes for which the words behind a command's name are refused, none where they are taken
unfoldable pub form_fault : Form → List (List ℕ) → Kinds
form_fault form words = fault_of (form_app form) words

-- what the words behind a command's name give for the value of this name
unfoldable pub form_given : Form → List (List ℕ) → List ℕ → Option (List ℕ)
form_given form words name = first_of name (matches_of (form_app form) words)

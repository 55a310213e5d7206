-- What a line of a file of questions says, by the JSON value that it is.
use Rattle.std.specs.Prelude.{ℕ, List, ◌==◌, Bool, false, codes, if◌then◌else◌, Option, Some, None, option_map}
use Rattle.std.specs.Prelude.{option_and_then}
use Rattle.std.specs.Str.{bytes_eq}
use Rattle.jdwp_commands.specs.declared.question.Question.{Question}
use Rattle.serde_json.specs.Data.{Data, Num, unsigned, negative, float, Items, no_items, item}
use Rattle.serde_json.specs.Find.{as_array, as_number, as_str}
use Rattle.ask_texts.specs.declared.rows.Row.{Row}
use Rattle.ask_texts.specs.declared.rows.Row.TheVariants.{Head, Ask, End}
use Rattle.ask_texts.specs.Names.{kind_of_name}
use Rattle.ask_texts.specs.Parts.{nothing_in, only_of}
use Rattle.ask_texts.specs.Questions.{question_of}

-- whether an integer is the version that is known; another number is none
abbrev pub is_known : Num → Option Bool
is_known (unsigned n) = Some (n == 1)
is_known (negative z) = Some false
is_known (float x) = None

abbrev pub version_in : Data → Option Bool
version_in d = option_and_then is_known (as_number d)

-- the question that a name and its parts are
abbrev pub question_named : Items → List ℕ → Option Question
question_named parts name = option_and_then (λ kind. question_of kind parts) (kind_of_name name)

abbrev pub question_in : Items → Option Question
question_in no_items = None
question_in (item name parts) = option_and_then (question_named parts) (as_str name)

-- the row of a first element, which is a name, and of those behind it
abbrev pub row_named : Items → List ℕ → Option Row
row_named ds name =
    if bytes_eq name (codes "ask") then option_map Ask (question_in ds) else
    (if bytes_eq name (codes "tap") then option_map Head (option_and_then version_in (only_of ds)) else
    (if bytes_eq name (codes "end") then nothing_in End ds else None))

abbrev pub row_of_items : Items → Option Row
row_of_items no_items = None
row_of_items (item name ds) = option_and_then (row_named ds) (as_str name)

-- the row that a value is, where it is one
abbrev pub row_of : Data → Option Row
row_of d = option_and_then row_of_items (as_array d)

-- The text of a file of questions, and of what they have come to.
use Rattle.std.specs.Prelude.{ℕ, ◌+◌, List, [], ◌∷◌, ◌++◌, flat_map, codes}
use Rattle.line_elements.specs.Numbers.{natural_data}
use Rattle.line_elements.specs.Values.{array_of}
use Rattle.script_text.specs.Texts.{line_of}
use Rattle.serde_json.specs.Data.{Data, string}
use Rattle.tap_model.specs.declared.ask.Ask.{Ask}
use Rattle.tap_model.specs.declared.ask.Reached.{Reached}
use Rattle.tap_model.specs.declared.ask.Reached.TheVariants.{Answer, Error, Unfit, Never}
use Rattle.ask_texts.specs.Forms.{answer_data, ask_data}

-- Questions -----------------------------------------------------------------------------------------------------------

-- the first line, and the last
abbrev pub head_data : Data
head_data = array_of (string (codes "tap") ∷ natural_data 1 ∷ [])

abbrev pub end_data : Data
end_data = array_of (string (codes "end") ∷ [])

-- the line of a question
abbrev pub ask_text : Ask → List ℕ
ask_text ask = line_of (ask_data ask.question)

-- the text of a file of these questions
abbrev pub asks_text : List Ask → List ℕ
asks_text asks = line_of head_data ++ (flat_map ask_text asks ++ line_of end_data)

-- What they have come to ----------------------------------------------------------------------------------------------

-- a name, and the number of a question
abbrev pub numbered_data : List ℕ → ℕ → Data
numbered_data name n = array_of (string name ∷ natural_data n ∷ [])

-- what the question of this number has come to
abbrev pub reached_data : ℕ → Reached → Data
reached_data n (Answer answer) = array_of (string (codes "answer") ∷ natural_data n ∷ answer_data answer ∷ [])
reached_data n (Error code) = array_of (string (codes "error") ∷ natural_data n ∷ natural_data code ∷ [])
reached_data n Unfit = numbered_data (codes "unfit") n
reached_data n Never = numbered_data (codes "none") n

-- a line for each, where the first has this number
abbrev pub answers_text : ℕ → List Reached → List ℕ
answers_text n [] = []
answers_text n (reached ∷ others) = line_of (reached_data n reached) ++ answers_text (n + 1) others

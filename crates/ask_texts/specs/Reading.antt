-- The questions that a text is, or its first faulty line.
use Rattle.std.specs.Prelude.{ℕ, ◌+◌, ◌^◌, ◌==◌, nat_lt, min, List, [], ◌∷◌, ◌++◌, length, Bool, true, false}
use Rattle.std.specs.Prelude.{◌≡◌, if◌then◌else◌, Option, Some, None, Result, Ok, Err}
use Rattle.std.specs.Str.{is_utf8}
use Rattle.jdwp_commands.specs.declared.question.Question.{Question}
use Rattle.serde_json.specs.Data.{Data}
use Rattle.serde_json.specs.Read.{read}
use Rattle.script_text.specs.declared.log.ScriptFault.{ScriptFault}
use Rattle.script_text.specs.declared.log.ScriptFault.TheVariants.{NotUtf8, NotJson, BadShape, BadVersion, BadOrder}
use Rattle.script_text.specs.declared.log.ScriptFault.TheVariants.{NoEnd, AfterEnd}
use Rattle.script_text.specs.declared.log.ScriptTrouble.{ScriptTrouble}
use Rattle.script_text.specs.declared.log.ScriptTrouble.TheVariants.{At}
use Rattle.script_text.specs.declared.read.LineTrouble.{LineTrouble}
use Rattle.script_text.specs.declared.read.LineTrouble.TheVariants.{NoMemory as no_memory, Fault}
use Rattle.script_text.specs.Reading.{and_then, next_line}
use Rattle.tap_model.specs.declared.ask.Ask.{Ask as AnAsk}
use Rattle.ask_texts.specs.declared.read.Reading.{Reading}
use Rattle.ask_texts.specs.declared.read.Stage.{Stage}
use Rattle.ask_texts.specs.declared.read.Stage.TheVariants.{Start, Inside, Over}
use Rattle.ask_texts.specs.declared.rows.Row.{Row}
use Rattle.ask_texts.specs.declared.rows.Row.TheVariants.{Head, Ask, End}
use Rattle.ask_texts.specs.Rows.{row_of}

-- A line alone --------------------------------------------------------------------------------------------------------

-- a value is a row
abbrev pub unless_shapeless : Option Row → Result Row ScriptFault
unless_shapeless (Some row) = Ok row
unless_shapeless None = Err BadShape

abbrev pub shaped : Data → Result Row ScriptFault
shaped d = unless_shapeless (row_of d)

-- a text is one JSON value, and that is a row
abbrev pub row_read : Option Data → Result Row ScriptFault
row_read (Some d) = shaped d
row_read None = Err NotJson

-- what a line says, or its fault
unfoldable pub row_in : List ℕ → Result Row ScriptFault
row_in line = if is_utf8 line then row_read (read line) else Err NotUtf8

-- Lines in order ------------------------------------------------------------------------------------------------------

-- so many questions at most
abbrev pub most_asks : ℕ
most_asks = 65536

-- what was read, with a line more, behind which the text stands here
abbrev pub at_stage : Reading → Stage → Reading
at_stage reading stage = record { line = next_line reading.line; stage = stage; asks = reading.asks }

abbrev pub with_ask : Reading → Question → Reading
with_ask reading question = record {
  line = next_line reading.line;
  stage = Inside;
  asks = reading.asks ++ record { question = question } ∷ [];
}

-- the first line is the head, of the version that is known
abbrev pub begun : Reading → Row → Result Reading ScriptFault
begun reading (Head known) = if known then Ok (at_stage reading Inside) else Err BadVersion
begun reading (Ask question) = Err BadOrder
begun reading End = Err BadOrder

-- behind it stand questions, and the end
abbrev pub inside : Reading → Row → Result Reading ScriptFault
inside reading (Head known) = Err BadOrder
inside reading (Ask question) =
    if nat_lt (length reading.asks) most_asks then Ok (with_ask reading question) else Err BadOrder
inside reading End = Ok (at_stage reading Over)

-- and nothing behind the end
abbrev pub placed : Reading → Row → Stage → Result Reading ScriptFault
placed reading row Start = begun reading row
placed reading row Inside = inside reading row
placed reading row Over = Err AfterEnd

-- the row stands behind what was read, or is at fault
abbrev pub told_at : ℕ → {A : Type 0} → Result A ScriptFault → Result A ScriptTrouble
told_at line (Ok a) = Ok a
told_at line (Err kind) = Err (At line kind)

abbrev pub row_taken : Reading → Row → Result Reading ScriptTrouble
row_taken reading row = told_at reading.line (placed reading row reading.stage)

-- the line stands behind what was read, or is at fault
abbrev pub line_taken : Reading → List ℕ → Result Reading ScriptTrouble
line_taken reading line = and_then (row_taken reading) (told_at reading.line (row_in line))

-- The whole text ------------------------------------------------------------------------------------------------------

-- the questions, where the last line is the end
abbrev pub unless_open : Reading → Stage → Result (List AnAsk) ScriptTrouble
unless_open reading Start = Err (At reading.line NoEnd)
unless_open reading Inside = Err (At reading.line NoEnd)
unless_open reading Over = Ok reading.asks

-- what stands behind the last line feed is judged as a line, and isn't one
abbrev pub finished : Reading → List ℕ → Result (List AnAsk) ScriptTrouble
finished reading [] = unless_open reading reading.stage
finished reading (byte ∷ rest) = and_then (λ next. Err (At next.line NoEnd)) (line_taken reading (byte ∷ rest))

-- the rest of a text, behind the bytes of a line so far: a line ends with a line feed
abbrev pub read_on : Reading → List ℕ → List ℕ → Result (List AnAsk) ScriptTrouble
read_on reading line [] = finished reading line
read_on reading line (byte ∷ bytes) =
    if byte == 10 then and_then (λ next. read_on next [] bytes) (line_taken reading line)
    else read_on reading (line ++ byte ∷ []) bytes

-- before the first line
abbrev pub beginning : Reading
beginning = record { line = 1; stage = Start; asks = [] }

-- the questions that a text is, or its first faulty line
unfoldable pub reading_of : List ℕ → Result (List AnAsk) ScriptTrouble
reading_of text = read_on beginning [] text

-- Results -------------------------------------------------------------------------------------------------------------

abbrev pub IsLine : Result Row LineTrouble → Result Row ScriptFault → Type 0
IsLine (Ok row) reading = reading ≡ Ok row
IsLine (Err no_memory) reading = Unit {0}
IsLine (Err (Fault kind)) reading = reading ≡ Err kind

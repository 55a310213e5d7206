-- The session log that a text is, or its first faulty line.
use Rattle.std.specs.Prelude.{◌≡◌, ℕ, ◌+◌, ◌-◌, ◌^◌, ◌==◌, min, List, [], ◌∷◌, ◌++◌}
use Rattle.std.specs.Prelude.{if◌then◌else◌, Option, Some, None, Result, Ok, Err}
use Rattle.std.specs.Str.{is_utf8}
use Rattle.run_logs.specs.declared.run.Run.{Run}
use Rattle.run_logs.specs.declared.run.Run.TheVariants.{One, Quiets as counted}
use Rattle.serde_json.specs.Data.{Data}
use Rattle.serde_json.specs.Read.{read}
use Rattle.script_text.specs.declared.log.SessionLog.{SessionLog}
use Rattle.script_text.specs.declared.log.ScriptFault.{ScriptFault}
use Rattle.script_text.specs.declared.log.ScriptFault.TheVariants.{NotUtf8, NotJson, BadShape, NoEnd}
use Rattle.script_text.specs.declared.log.ScriptTrouble.{ScriptTrouble}
use Rattle.script_text.specs.declared.log.ScriptTrouble.TheVariants.{NoMemory, At}
use Rattle.script_text.specs.declared.rows.Row.{Row}
use Rattle.script_text.specs.declared.rows.Row.TheVariants.{Head, Limits, Entry, Quiet, Quiets, Ending, End}
use Rattle.wire_core.specs.declared.outside.Entry.{Entry as Logged}
use Rattle.script_text.specs.declared.order.Place.{Place}
use Rattle.script_text.specs.declared.order.Place.TheVariants.{Headed, Inside, Ended, Over}
use Rattle.script_text.specs.declared.order.Stage.{Stage}
use Rattle.script_text.specs.declared.order.Stage.TheVariants.{Start, Behind}
use Rattle.script_text.specs.declared.read.Reading.{Reading}
use Rattle.script_text.specs.declared.read.LineTrouble.{LineTrouble}
use Rattle.script_text.specs.declared.read.LineTrouble.TheVariants.{NoMemory as no_memory, Fault}
use Rattle.script_text.specs.Order.{next_stage, waits_in}
use Rattle.script_text.specs.Rows.{row_of}

-- ---- a line alone

-- a value is a row
abbrev pub unless_shapeless : Option Row → Result Row ScriptFault
unless_shapeless (Some row) = Ok row
unless_shapeless None = Err BadShape

abbrev pub shaped : Data → Result Row ScriptFault
shaped d = unless_shapeless (row_of d)

-- a text is one JSON value, and that is a row
abbrev pub row_read : Option Data → Result Row ScriptFault
row_read (Some d) = shaped d
row_read None = Err NotJson

-- what a line says, or its fault
unfoldable pub row_in : List ℕ → Result Row ScriptFault
row_in line = if is_utf8 line then row_read (read line) else Err NotUtf8

-- ---- lines in order

-- a log with these runs
abbrev pub with_runs : SessionLog → List Run → SessionLog
with_runs log runs = record {
  turns = log.turns;
  quiet = log.quiet;
  waiting = log.waiting;
  runs = runs;
  ending = log.ending;
}

-- so many waits, which are a run where there are some
abbrev pub run_of : ℕ → List Run
run_of waits = if waits == 0 then [] else counted waits ∷ []

abbrev pub with_waits : SessionLog → ℕ → SessionLog
with_waits log waits = with_runs log (log.runs ++ run_of waits)

abbrev pub with_one : SessionLog → Logged → SessionLog
with_one log entry = with_runs log (log.runs ++ One entry ∷ [])

abbrev pub with_ending : SessionLog → ℕ → SessionLog
with_ending log status = record {
  turns = log.turns;
  quiet = log.quiet;
  waiting = log.waiting;
  runs = log.runs;
  ending = Some status;
}

-- what a log says with one row more, where so many waits stand before it: they become one run once another row follows
abbrev pub with_row : SessionLog → ℕ → Row → SessionLog
with_row log waits (Head version) = log
with_row log waits (Limits turns quiet waiting) =
    record { turns = turns; quiet = quiet; waiting = waiting; runs = log.runs; ending = log.ending }
with_row log waits (Entry entry) = with_one (with_waits log waits) entry
with_row log waits Quiet = log
with_row log waits (Quiets n) = log
with_row log waits (Ending status) = with_ending (with_waits log waits) status
with_row log waits End = with_waits log waits

-- the number of the line behind a line; the last number stands for all that follow
abbrev pub next_line : ℕ → ℕ
next_line line = min (line + 1) (2 ^ 32 - 1)

-- the row stands behind what was read, or is at fault
abbrev pub staged : Reading → Row → Result Stage ScriptFault → Result Reading ScriptTrouble
staged reading row (Ok stage) =
    Ok (record {
      line = next_line reading.line;
      stage = stage;
      log = with_row reading.log (waits_in reading.stage) row;
    })
staged reading row (Err kind) = Err (At reading.line kind)

abbrev pub row_taken : Reading → Row → Result Reading ScriptTrouble
row_taken reading row = staged reading row (next_stage reading.stage row)

-- the line stands behind what was read, or is at fault
abbrev pub said : Reading → Result Row ScriptFault → Result Reading ScriptTrouble
said reading (Ok row) = row_taken reading row
said reading (Err kind) = Err (At reading.line kind)

abbrev pub line_taken : Reading → List ℕ → Result Reading ScriptTrouble
line_taken reading line = said reading (row_in line)

-- the first trouble is told
abbrev pub and_then : {A B : Type 0} → (A → Result B ScriptTrouble) → Result A ScriptTrouble → Result B ScriptTrouble
and_then next (Ok a) = next a
and_then next (Err trouble) = Err trouble

-- all lines, in order
abbrev pub lines_taken : Reading → List (List ℕ) → Result Reading ScriptTrouble
lines_taken reading [] = Ok reading
lines_taken reading (line ∷ lines) = and_then (λ next. lines_taken next lines) (line_taken reading line)

-- ---- the whole text

-- a text: its lines, and what stands behind the last line feed
pub record Cut : Type 0 where
  pub lines : List (List ℕ)
  pub rest : List ℕ

-- bytes before the first line
abbrev pub before_lines : List ℕ → List (List ℕ) → List ℕ → Cut
before_lines bytes [] rest = record { lines = []; rest = bytes ++ rest }
before_lines bytes (line ∷ lines) rest = record { lines = (bytes ++ line) ∷ lines; rest = rest }

abbrev pub before : List ℕ → Cut → Cut
before bytes cut = before_lines bytes cut.lines cut.rest

abbrev pub cut_of : List ℕ → Cut
cut_of [] = record { lines = []; rest = [] }
cut_of (byte ∷ bytes) =
    if byte == 10 then record { lines = [] ∷ (cut_of bytes).lines; rest = (cut_of bytes).rest }
    else before (byte ∷ []) (cut_of bytes)

-- the log ends with its last line
abbrev pub unless_open_at : Reading → Place → Result SessionLog ScriptTrouble
unless_open_at reading Headed = Err (At reading.line NoEnd)
unless_open_at reading (Inside closed before) = Err (At reading.line NoEnd)
unless_open_at reading Ended = Err (At reading.line NoEnd)
unless_open_at reading Over = Ok reading.log

abbrev pub unless_open : Reading → Stage → Result SessionLog ScriptTrouble
unless_open reading Start = Err (At reading.line NoEnd)
unless_open reading (Behind version left place) = unless_open_at reading place

-- what stands behind the last line feed is judged as a line, and isn't one
abbrev pub finished : Reading → List ℕ → Result SessionLog ScriptTrouble
finished reading [] = unless_open reading reading.stage
finished reading (byte ∷ rest) = and_then (λ next. Err (At next.line NoEnd)) (line_taken reading (byte ∷ rest))

-- a log with the limits of version 1, and nothing else
abbrev pub usual_log : SessionLog
usual_log = record { turns = 1099511627776; quiet = 43200000; waiting = 65536; runs = []; ending = None }

-- before the first line
abbrev pub beginning : Reading
beginning = record { line = 1; stage = Start; log = usual_log }

abbrev pub by_lines : Reading → Cut → Result SessionLog ScriptTrouble
by_lines reading cut = and_then (λ last. finished last cut.rest) (lines_taken reading cut.lines)

-- the log that a text is, or its first faulty line
unfoldable pub reading_of : List ℕ → Result SessionLog ScriptTrouble
reading_of text = by_lines beginning (cut_of text)

-- ---- results

-- the result is this one, unless memory was refused
abbrev pub IsRead : {A : Type 0} → Result A ScriptTrouble → Result A ScriptTrouble → Type 0
IsRead (Ok a) reading = reading ≡ Ok a
IsRead (Err NoMemory) reading = Unit {0}
IsRead (Err (At line kind)) reading = reading ≡ Err (At line kind)

abbrev pub IsLine : Result Row LineTrouble → Result Row ScriptFault → Type 0
IsLine (Ok row) reading = reading ≡ Ok row
IsLine (Err no_memory) reading = Unit {0}
IsLine (Err (Fault kind)) reading = reading ≡ Err kind

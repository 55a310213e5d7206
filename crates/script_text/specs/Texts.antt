-- The text of a session log: a line of JSON for each thing that the wires logged, waits in vain counted.
use Rattle.std.specs.Prelude.{ℕ, List, [], ◌∷◌, ◌++◌, flat_map, codes, Option, Some, None}
use Rattle.hex.specs.Hex.{encode_lower}
use Rattle.run_logs.specs.Runs.{entries_of}
use Rattle.run_logs.specs.declared.run.Run.{Run}
use Rattle.run_logs.specs.declared.run.Run.TheVariants.{One, Quiets}
use Rattle.serde_json.specs.Data.{Data, number, unsigned, string, array}
use Rattle.serde_json.specs.View.{items_of}
use Rattle.serde_json.specs.Written.{compact_text}
use Rattle.wire_core.specs.declared.outside.Side.{Side}
use Rattle.wire_core.specs.declared.outside.Side.TheVariants.{Client, Target}
use Rattle.wire_core.specs.declared.outside.Entry.{Entry}
use Rattle.wire_core.specs.declared.outside.Entry.TheVariants.{In, Out, Shut, Failed, Quiet}
use Rattle.script_text.specs.declared.log.SessionLog.{SessionLog}

-- the name of a side
abbrev pub side_name : Side → List ℕ
side_name Client = codes "client"
side_name Target = codes "target"

-- an array of these elements
abbrev pub array_of : List Data → Data
array_of elements = array (items_of elements)

-- a name alone
abbrev pub bare_data : List ℕ → Data
bare_data name = array_of (string name ∷ [])

-- a name, and a number
abbrev pub number_data : List ℕ → ℕ → Data
number_data name n = array_of (string name ∷ number (unsigned n) ∷ [])

-- a name, and a side
abbrev pub side_data : List ℕ → Side → Data
side_data name side = array_of (string name ∷ string (side_name side) ∷ [])

-- a name, a side, and bytes in lower-case hexadecimal
abbrev pub bytes_data : List ℕ → Side → List ℕ → Data
bytes_data name side bytes = array_of (string name ∷ string (side_name side) ∷ string (encode_lower bytes) ∷ [])

-- the first line says that this is a log, and of which version
abbrev pub head_data : ℕ → Data
head_data version = number_data (codes "log") version

-- the limits
abbrev pub limits_data : ℕ → ℕ → ℕ → Data
limits_data turns quiet waiting =
    array_of
    (string (codes "limits") ∷ number (unsigned turns) ∷ number (unsigned quiet) ∷ number (unsigned waiting) ∷ [])

-- so many waits in vain
abbrev pub quiets_data : ℕ → Data
quiets_data n = number_data (codes "quiet") n

-- an entry
abbrev pub entry_data : Entry → Data
entry_data (In side bytes) = bytes_data (codes "in") side bytes
entry_data (Out side bytes) = bytes_data (codes "out") side bytes
entry_data (Shut side) = side_data (codes "shut") side
entry_data (Failed side) = side_data (codes "failed") side
entry_data Quiet = quiets_data 1

-- an entry, or waits that follow each other
abbrev pub run_data : Run → Data
run_data (One entry) = entry_data entry
run_data (Quiets n) = quiets_data n

-- the status of the session's ending
abbrev pub ending_data : ℕ → Data
ending_data status = number_data (codes "ending") status

-- the last line
abbrev pub end_data : Data
end_data = bare_data (codes "end")

-- a line: the compact text of a value, and a line feed
unfoldable pub line_of : Data → List ℕ
line_of d = compact_text d ++ 10 ∷ []

-- the line of an entry
abbrev pub entry_text : Entry → List ℕ
entry_text entry = line_of (entry_data entry)

-- the line of an ending, where it is told
abbrev pub ending_text : Option ℕ → List ℕ
ending_text (Some status) = line_of (ending_data status)
ending_text None = []

-- the line of a run
abbrev pub run_text : Run → List ℕ
run_text run = line_of (run_data run)

-- the text of a log: the head, the limits, the runs, the ending where it is told, and the end
abbrev pub log_text : SessionLog → List ℕ
log_text log =
    line_of (head_data 2)
    ++ (line_of (limits_data log.turns log.quiet log.waiting)
    ++ (flat_map run_text log.runs ++ (ending_text log.ending ++ line_of end_data)))

-- in version 1 each wait in vain has a line
abbrev pub old_data : Entry → Data
old_data (In side bytes) = entry_data (In side bytes)
old_data (Out side bytes) = entry_data (Out side bytes)
old_data (Shut side) = entry_data (Shut side)
old_data (Failed side) = entry_data (Failed side)
old_data Quiet = bare_data (codes "quiet")

abbrev pub old_entry_text : Entry → List ℕ
old_entry_text entry = line_of (old_data entry)

-- the text of a log in version 1: the head, each entry, the ending where it is told, and the end
abbrev pub old_text : SessionLog → List ℕ
old_text log =
    line_of (head_data 1)
    ++ (flat_map old_entry_text (entries_of log.runs) ++ (ending_text log.ending ++ line_of end_data))

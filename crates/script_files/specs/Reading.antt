-- The script that a text is, or its first faulty line.
use Rattle.std.specs.Prelude.{◌≡◌, ℕ, ◌+◌, ◌-◌, ◌^◌, ◌==◌, min, List, [], ◌∷◌, ◌++◌}
use Rattle.std.specs.Prelude.{if◌then◌else◌, Option, Some, None, option_and_then, Result, Ok, Err}
use Rattle.std.specs.Str.{is_utf8}
use Rattle.jdwp_values.specs.declared.sizes.IdSizes.{IdSizes}
use Rattle.serde_json.specs.Data.{Data}
use Rattle.serde_json.specs.Read.{read}
use Rattle.script_rows.specs.declared.rows.Row.{Row}
use Rattle.script_rows.specs.declared.rows.Row.TheVariants as rows
use Rattle.script_rows.specs.declared.script.Script.{Script}
use Rattle.script_rows.specs.Rows.{row_of}
use Rattle.line_elements.specs.declared.version.Version.{Version}
use Rattle.line_elements.specs.declared.version.Version.TheVariants.{First}
use Rattle.script_text.specs.declared.log.ScriptFault.{ScriptFault}
use Rattle.script_text.specs.declared.log.ScriptFault.TheVariants.{NotUtf8, NotJson, BadShape, BadVersion, BadOrder}
use Rattle.script_text.specs.declared.log.ScriptFault.TheVariants.{UnknownId, NoEnd}
use Rattle.script_text.specs.declared.log.ScriptTrouble.{ScriptTrouble}
use Rattle.script_text.specs.declared.log.ScriptTrouble.TheVariants.{NoMemory, At}
use Rattle.target_scripts.specs.declared.building.Building.{Building}
use Rattle.target_scripts.specs.declared.building.RowTrouble.{RowTrouble}
use Rattle.target_scripts.specs.declared.building.RowTrouble.TheVariants as troubles
use Rattle.script_files.specs.declared.reading.Reading.{Reading}
use Rattle.target_scripts.specs.Adding.{begun, grown}
use Rattle.target_scripts.specs.Chains.{chain_fault}
use Rattle.script_files.specs.Sizes.{sizes_of}

-- A line alone -------------------------------------------------------------------------------------------------------

-- a value is a row
abbrev pub unless_shapeless : Option Row → Result Row ScriptFault
unless_shapeless (Some row) = Ok row
unless_shapeless None = Err BadShape

abbrev pub shaped : Version → Data → Result Row ScriptFault
shaped version d = unless_shapeless (row_of version d)

-- a text is one JSON value, and that is a row
abbrev pub row_read : Version → Option Data → Result Row ScriptFault
row_read version (Some d) = shaped version d
row_read version None = Err NotJson

-- what a line of a script of this version says, or its fault
unfoldable pub row_in : Version → List ℕ → Result Row ScriptFault
row_in version line = if is_utf8 line then row_read version (read line) else Err NotUtf8

-- The first two lines ------------------------------------------------------------------------------------------------

-- the version of a head, where it is known; nothing of another row
abbrev pub version_of : Row → Option (Option Version)
version_of (rows.Head version) = Some version
version_of (rows.Sizes sizes) = None
version_of (rows.Limits turns quiet waiting) = None
version_of (rows.Class row) = None
version_of (rows.Method row) = None
version_of (rows.Variable row) = None
version_of (rows.Field row) = None
version_of (rows.Object row) = None
version_of (rows.Array row) = None
version_of (rows.Text row) = None
version_of (rows.Put row) = None
version_of (rows.Thread row) = None
version_of (rows.Frame row) = None
version_of (rows.Begin begin) = None
version_of (rows.Move row) = None
version_of (rows.Turn turn) = None
version_of rows.End = None

-- the numbers of a row of sizes; nothing of another row
abbrev pub numbers_of : Row → Option (List ℕ)
numbers_of (rows.Sizes sizes) = Some sizes
numbers_of (rows.Head version) = None
numbers_of (rows.Limits turns quiet waiting) = None
numbers_of (rows.Class row) = None
numbers_of (rows.Method row) = None
numbers_of (rows.Variable row) = None
numbers_of (rows.Field row) = None
numbers_of (rows.Object row) = None
numbers_of (rows.Array row) = None
numbers_of (rows.Text row) = None
numbers_of (rows.Put row) = None
numbers_of (rows.Thread row) = None
numbers_of (rows.Frame row) = None
numbers_of (rows.Begin begin) = None
numbers_of (rows.Move row) = None
numbers_of (rows.Turn turn) = None
numbers_of rows.End = None

-- the first line is the head, of a known version
abbrev pub headed : Option (Option Version) → Result Version ScriptFault
headed None = Err BadOrder
headed (Some None) = Err BadVersion
headed (Some (Some version)) = Ok version

-- the second says how many bytes ids take
abbrev pub sized : Option IdSizes → Result Building ScriptFault
sized None = Err BadShape
sized (Some sizes) = Ok (begun sizes)

abbrev pub with_sizes : Option (List ℕ) → Result Building ScriptFault
with_sizes None = Err BadOrder
with_sizes (Some numbers) = sized (sizes_of numbers)

-- Lines in order -----------------------------------------------------------------------------------------------------

-- the number of the line behind a line; the last number stands for all that follow
abbrev pub next_line : ℕ → ℕ
next_line line = min (line + 1) (2 ^ 32 - 1)

-- what was read behind a line, or the fault of that line
abbrev pub behind_head : Reading → Result Version ScriptFault → Result Reading ScriptFault
behind_head reading (Ok version) =
    Ok (record { line = next_line reading.line; version = Some version; building = reading.building })
behind_head reading (Err kind) = Err kind

abbrev pub behind_row : Reading → Result Building ScriptFault → Result Reading ScriptFault
behind_row reading (Ok building) =
    Ok (record { line = next_line reading.line; version = reading.version; building = Some building })
behind_row reading (Err kind) = Err kind

-- one of the first two lines
abbrev pub first_taken : Reading → Row → Option Version → Result Reading ScriptFault
first_taken reading row None = behind_head reading (headed (version_of row))
first_taken reading row (Some version) = behind_row reading (with_sizes (numbers_of row))

abbrev pub taken_by : Reading → Row → Option Building → Result Reading ScriptFault
taken_by reading row None = first_taken reading row reading.version
taken_by reading row (Some building) = behind_row reading (grown building row)

abbrev pub row_taken : Reading → Row → Result Reading ScriptFault
row_taken reading row = taken_by reading row reading.building

abbrev pub said : Reading → Result Row ScriptFault → Result Reading ScriptFault
said reading (Ok row) = row_taken reading row
said reading (Err kind) = Err kind

-- a line is read in the script's version, and before the head in the first
abbrev pub or_first : Option Version → Version
or_first None = First
or_first (Some version) = version

abbrev pub line_taken : Reading → List ℕ → Result Reading ScriptFault
line_taken reading line = said reading (row_in (or_first reading.version) line)

-- The whole text -----------------------------------------------------------------------------------------------------

-- What was read where reading stopped, and the fault of the next line, where it stopped at that.
pub record Stop : Type 0 where
  pub reading : Reading
  pub fault : Option ScriptFault

-- what follows a line that has no fault
abbrev pub after : Reading → (Reading → Stop) → Result Reading ScriptFault → Stop
after reading follows (Ok next) = follows next
after reading follows (Err kind) = record { reading = reading; fault = Some kind }

-- the last line is the end
abbrev pub end_fault : Option Building → Option ScriptFault
end_fault None = Some NoEnd
end_fault (Some building) = if building.last == 15 then None else Some NoEnd

-- what stands behind the last line feed is judged as a line, and isn't one
abbrev pub finished : Reading → List ℕ → Stop
finished reading [] = record { reading = reading; fault = end_fault reading.building }
finished reading (byte ∷ rest) =
    after reading (λ next. record { reading = next; fault = Some NoEnd }) (line_taken reading (byte ∷ rest))

-- the rest of a text, behind the bytes of a line so far: a line ends with a line feed
abbrev pub read_on : Reading → List ℕ → List ℕ → Stop
read_on reading line [] = finished reading line
read_on reading line (byte ∷ bytes) =
    if byte == 10 then after reading (λ next. read_on next [] bytes) (line_taken reading line)
    else read_on reading (line ++ byte ∷ []) bytes

-- before the first line
abbrev pub beginning : Reading
beginning = record { line = 1; version = None; building = None }

-- the script that was read, where the last line is the end
abbrev pub script_in : ℕ → Option Building → Option ScriptFault → Result Script ScriptTrouble
script_in line None None = Err (At line NoEnd)
script_in line (Some building) None = Ok building.script
script_in line building (Some kind) = Err (At line kind)

-- The chains of the classes that were read are judged wherever reading stopped: their lines stand before the line where
-- it did.
abbrev pub unless_open : ℕ → Option Building → Option ScriptFault → Option ℕ → Result Script ScriptTrouble
unless_open line building fault None = script_in line building fault
unless_open line building fault (Some class_line) = Err (At class_line UnknownId)

abbrev pub open_line : Option Building → Option ℕ
open_line building = option_and_then chain_fault building

abbrev pub judged : Stop → Result Script ScriptTrouble
judged stop =
    unless_open stop.reading.line stop.reading.building stop.fault (open_line stop.reading.building)

-- the script that a text is, or its first faulty line
unfoldable pub script_of : List ℕ → Result Script ScriptTrouble
script_of text = judged (read_on beginning [] text)

-- Results ------------------------------------------------------------------------------------------------------------

-- the result is this one, unless memory was refused
abbrev pub IsRead : Result Script ScriptTrouble → Result Script ScriptTrouble → Type 0
IsRead (Ok script) reading = reading ≡ Ok script
IsRead (Err NoMemory) reading = Unit {0}
IsRead (Err (At line kind)) reading = reading ≡ Err (At line kind)

abbrev pub IsLine : {A : Type 0} → Result A RowTrouble → Result A ScriptFault → Type 0
IsLine (Ok a) reading = reading ≡ Ok a
IsLine (Err troubles.NoMemory) reading = Unit {0}
IsLine (Err (troubles.Fault kind)) reading = reading ≡ Err kind

-- a line was taken; a fault leaves what was read as it was
abbrev pub IsTaken : Reading → Reading → Result (Unit {0}) RowTrouble → Result Reading ScriptFault → Type 0
IsTaken old new (Ok done) result = result ≡ Ok new
IsTaken old new (Err troubles.NoMemory) result = Unit {0}
IsTaken old new (Err (troubles.Fault kind)) result = (result ≡ Err kind) × (new ≡ old)

-- reading stopped
abbrev pub IsStopped : Reading → Result (Unit {0}) RowTrouble → Stop → Type 0
IsStopped new (Ok done) stop = stop ≡ record { reading = new; fault = None }
IsStopped new (Err troubles.NoMemory) stop = Unit {0}
IsStopped new (Err (troubles.Fault kind)) stop = stop ≡ record { reading = new; fault = Some kind }

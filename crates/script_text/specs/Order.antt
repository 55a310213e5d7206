-- Which rows may follow each other in a log.
use Rattle.std.specs.Prelude.{ℕ, ◌-◌, ◌==◌, ◌&&◌, nat_lt, nat_le, Bool, true, false, if◌then◌else◌}
use Rattle.std.specs.Prelude.{Option, Some, None, Result, Ok, Err}
use Rattle.wire_core.specs.declared.outside.Side.{Side}
use Rattle.wire_core.specs.declared.outside.Side.TheVariants.{Client, Target}
use Rattle.wire_core.specs.declared.outside.Entry.{Entry as Logged}
use Rattle.wire_core.specs.declared.outside.Entry.TheVariants.{In, Out, Shut, Failed, Quiet as nothing}
use Rattle.script_text.specs.declared.log.ScriptFault.{ScriptFault}
use Rattle.script_text.specs.declared.log.ScriptFault.TheVariants.{BadShape, BadVersion, BadOrder, AfterEnd}
use Rattle.script_text.specs.declared.rows.Row.{Row}
use Rattle.script_text.specs.declared.rows.Row.TheVariants.{Head, Limits, Entry, Quiet, Quiets, Ending, End}
use Rattle.script_text.specs.declared.rows.Version.{Version}
use Rattle.script_text.specs.declared.rows.Version.TheVariants.{First, Second}
use Rattle.script_text.specs.declared.order.Closed.{Closed}
use Rattle.script_text.specs.declared.order.Place.{Place}
use Rattle.script_text.specs.declared.order.Place.TheVariants.{Headed, Inside, Ended, Over}
use Rattle.script_text.specs.declared.order.Stage.{Stage}
use Rattle.script_text.specs.declared.order.Stage.TheVariants.{Start, Behind}
use Rattle.script_text.specs.Rows.{most_quiets}

-- a side has ended or failed
abbrev pub is_closed : Closed → Side → Bool
is_closed closed Client = closed.client
is_closed closed Target = closed.target

-- this side too
abbrev pub closed_with : Closed → Side → Closed
closed_with closed Client = record { client = true; target = closed.target }
closed_with closed Target = record { client = closed.client; target = true }

-- no side
abbrev pub none_closed : Closed
none_closed = record { client = false; target = false }

-- a side ends or fails once
abbrev pub closes : Closed → Side → Option Closed
closes closed side = if is_closed closed side then None else Some (closed_with closed side)

-- the sides that have ended or failed behind an entry, where it may stand: nothing comes from such a side any more
abbrev pub entered : Closed → Logged → Option Closed
entered closed (In side bytes) = if is_closed closed side then None else Some closed
entered closed (Out side bytes) = Some closed
entered closed (Shut side) = closes closed side
entered closed (Failed side) = closes closed side
entered closed nothing = Some closed

-- the two versions
abbrev pub is_first : Version → Bool
is_first First = true
is_first Second = false

abbrev pub is_second : Version → Bool
is_second First = false
is_second Second = true

-- a row is one of this version, where so many waits in vain may still come
abbrev pub is_of : Version → ℕ → Row → Bool
is_of version left (Head other) = true
is_of version left (Limits turns quiet waiting) = is_second version
is_of version left (Entry entry) = true
is_of version left Quiet = is_first version && nat_lt 0 left
is_of version left (Quiets n) = is_second version && nat_le n left
is_of version left (Ending status) = true
is_of version left End = true

-- behind the head of version 2 stand the limits; behind that of version 1 the entries
abbrev pub first_place : Version → Place
first_place First = Inside none_closed most_quiets
first_place Second = Headed

-- the first row is the head, of a known version
abbrev pub headed : Option Version → Result Stage ScriptFault
headed (Some version) = Ok (Behind version most_quiets (first_place version))
headed None = Err BadVersion

abbrev pub started : Row → Result Stage ScriptFault
started (Head version) = headed version
started (Limits turns quiet waiting) = Err BadOrder
started (Entry entry) = Err BadOrder
started Quiet = Err BadOrder
started (Quiets n) = Err BadOrder
started (Ending status) = Err BadOrder
started End = Err BadOrder

-- behind the head of version 2
abbrev pub limited : Row → Result Place ScriptFault
limited (Head version) = Err BadOrder
limited (Limits turns quiet waiting) = Ok (Inside none_closed most_quiets)
limited (Entry entry) = Err BadOrder
limited Quiet = Err BadOrder
limited (Quiets n) = Err BadOrder
limited (Ending status) = Err BadOrder
limited End = Err BadOrder

-- entries go on: behind one no wait stands yet
abbrev pub goes_on : ℕ → Option Closed → Result Place ScriptFault
goes_on left (Some closed) = Ok (Inside closed left)
goes_on left None = Err BadOrder

-- among the entries, where so many waits could come before those that stand last; counted waits stand behind no others
abbrev pub inside : ℕ → Closed → ℕ → Row → Result Place ScriptFault
inside left closed before (Head version) = Err BadOrder
inside left closed before (Limits turns quiet waiting) = Err BadOrder
inside left closed before (Entry entry) = goes_on left (entered closed entry)
inside left closed before Quiet = Ok (Inside closed before)
inside left closed before (Quiets n) = if before - left == 0 then Ok (Inside closed before) else Err BadOrder
inside left closed before (Ending status) = Ok Ended
inside left closed before End = Ok Over

-- behind the ending stands the end
abbrev pub ended : Row → Result Place ScriptFault
ended (Head version) = Err BadOrder
ended (Limits turns quiet waiting) = Err BadOrder
ended (Entry entry) = Err BadOrder
ended Quiet = Err BadOrder
ended (Quiets n) = Err BadOrder
ended (Ending status) = Err BadOrder
ended End = Ok Over

-- where a log stands behind a row of its version
abbrev pub next_place : ℕ → Place → Row → Result Place ScriptFault
next_place left Headed row = limited row
next_place left (Inside closed before) row = inside left closed before row
next_place left Ended row = ended row
next_place left Over row = Err AfterEnd

-- how many waits a row is of
abbrev pub waits_of : Row → ℕ
waits_of (Head version) = 0
waits_of (Limits turns quiet waiting) = 0
waits_of (Entry entry) = 0
waits_of Quiet = 1
waits_of (Quiets n) = n
waits_of (Ending status) = 0
waits_of End = 0

-- and how many may come behind it
abbrev pub stands : Version → ℕ → Result Place ScriptFault → Result Stage ScriptFault
stands version left (Ok place) = Ok (Behind version left place)
stands version left (Err kind) = Err kind

-- where a log stands behind a row, or why the row may not stand here: its version is judged before its place
abbrev pub next_stage : Stage → Row → Result Stage ScriptFault
next_stage Start row = started row
next_stage (Behind version left place) row =
    if is_of version left row then stands version (left - waits_of row) (next_place left place row) else Err BadShape

-- how many waits stand last, and are no part of the log yet
abbrev pub waits_at : ℕ → Place → ℕ
waits_at left Headed = 0
waits_at left (Inside closed before) = before - left
waits_at left Ended = 0
waits_at left Over = 0

abbrev pub waits_in : Stage → ℕ
waits_in Start = 0
waits_in (Behind version left place) = waits_at left place

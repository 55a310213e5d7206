-- The events of a composite (JDWP, Event command set, Composite): a byte that says which kind it is, and the parts of
-- the kind's row.
--
-- `event_at` reads one from a place, `spell_event` is its bytes, `FitsEvent` says that it has a spelling, and
-- `InRangeEvent` that its numbers are of their types.
use Rattle.std.specs.Prelude.{ℕ, ℤ, List, [], ◌∷◌, ◌++◌, Option, Some, None, Result, Err}
use Rattle.std.specs.Int.{bytes_high_first}
use Rattle.jdwp_values.specs.declared.fault.RowFault.{RowFault}
use Rattle.jdwp_values.specs.declared.fault.RowFault.TheVariants as faults
use Rattle.jdwp_values.specs.declared.id.ClassId.{ClassId}
use Rattle.jdwp_values.specs.declared.sizes.IdSizes.{IdSizes}
use Rattle.jdwp_values.specs.declared.tag.TypeTag.{TypeTag}
use Rattle.jdwp_values.specs.Parts.{Part, byte, int, number, thread, class, type_tag, text, location, reference}
use Rattle.jdwp_values.specs.Reading.{Place, offset, part_at}
use Rattle.jdwp_values.specs.Rows.{◌>>=◌, in_row, row_at, Said, said, spell_told, FitsTold, InRangeTold}
use Rattle.jdwp_events.specs.declared.event.Event.{Event}
use Rattle.jdwp_events.specs.declared.event.Event.TheVariants as events
use Rattle.jdwp_events.specs.declared.kind.EventKind.{EventKind}
use Rattle.jdwp_events.specs.declared.kind.EventKind.TheVariants as kinds
use Rattle.jdwp_events.specs.Kinds.{byte_of_kind, kind_of_byte}

-- which kind of event it is
abbrev pub kind_of : Event → EventKind
kind_of (events.SingleStep _ _ _) = kinds.SingleStep
kind_of (events.Breakpoint _ _ _) = kinds.Breakpoint
kind_of (events.Exception _ _ _ _ _) = kinds.Exception
kind_of (events.ThreadStart _ _) = kinds.ThreadStart
kind_of (events.ThreadDeath _ _) = kinds.ThreadDeath
kind_of (events.ClassPrepare _ _ _ _ _ _) = kinds.ClassPrepare
kind_of (events.VMStart _ _) = kinds.VMStart
kind_of (events.VMDeath _) = kinds.VMDeath

-- the parts behind a kind's byte (JDWP, Event command set, Composite)
abbrev pub event_row : EventKind → List Part
event_row kinds.SingleStep = number ∷ thread ∷ location ∷ []
event_row kinds.Breakpoint = number ∷ thread ∷ location ∷ []
event_row kinds.Exception = number ∷ thread ∷ location ∷ reference ∷ location ∷ []
event_row kinds.ThreadStart = number ∷ thread ∷ []
event_row kinds.ThreadDeath = number ∷ thread ∷ []
event_row kinds.ClassPrepare = number ∷ thread ∷ type_tag ∷ class ∷ text ∷ int ∷ []
event_row kinds.VMStart = number ∷ thread ∷ []
event_row kinds.VMDeath = number ∷ []

-- the event behind its kind's byte, read by the kind's row
abbrev pub event_behind : EventKind → Place → Result (Event × Place) RowFault
event_behind kinds.SingleStep = row_at (event_row kinds.SingleStep) events.SingleStep
event_behind kinds.Breakpoint = row_at (event_row kinds.Breakpoint) events.Breakpoint
event_behind kinds.Exception = row_at (event_row kinds.Exception) events.Exception
event_behind kinds.ThreadStart = row_at (event_row kinds.ThreadStart) events.ThreadStart
event_behind kinds.ThreadDeath = row_at (event_row kinds.ThreadDeath) events.ThreadDeath
event_behind kinds.ClassPrepare = row_at (event_row kinds.ClassPrepare) events.ClassPrepare
event_behind kinds.VMStart = row_at (event_row kinds.VMStart) events.VMStart
event_behind kinds.VMDeath = row_at (event_row kinds.VMDeath) events.VMDeath

-- the event that begins here with its kind's byte; another byte is a bad kind
abbrev pub event_of_kind : Option EventKind → ℕ → Place → Result (Event × Place) RowFault
event_of_kind (Some kind) at place = event_behind kind place
event_of_kind None at place = Err (faults.BadKind at)

unfoldable pub event_at : Place → Result (Event × Place) RowFault
event_at place = in_row (part_at byte place) >>= λ b. event_of_kind (kind_of_byte b.0) (offset place) b.1

-- what an event says of a class
abbrev pub told_class : TypeTag → ClassId → List ℕ → ℤ → List Said
told_class tag c s status = said type_tag tag ∷ said class c ∷ said text s ∷ said int status ∷ []

-- what an event says in the parts of its kind's row
abbrev pub told : Event → List Said
told (events.SingleStep r t at) = said number r ∷ said thread t ∷ said location at ∷ []
told (events.Breakpoint r t at) = said number r ∷ said thread t ∷ said location at ∷ []
told (events.Exception r t at e catch) =
    said number r ∷ said thread t ∷ said location at ∷ said reference e ∷ said location catch ∷ []
told (events.ThreadStart r t) = said number r ∷ said thread t ∷ []
told (events.ThreadDeath r t) = said number r ∷ said thread t ∷ []
told (events.ClassPrepare r t tag c s status) = said number r ∷ said thread t ∷ told_class tag c s status
told (events.VMStart r t) = said number r ∷ said thread t ∷ []
told (events.VMDeath r) = said number r ∷ []

-- its kind's byte, and what it says
abbrev pub spell_event : IdSizes → Event → List ℕ
spell_event sizes event = bytes_high_first 1 (byte_of_kind (kind_of event)) ++ spell_told sizes (told event)

abbrev pub FitsEvent : IdSizes → Event → Type 0
FitsEvent sizes event = FitsTold sizes (told event)

abbrev pub InRangeEvent : Event → Type 0
InRangeEvent event = InRangeTold (told event)

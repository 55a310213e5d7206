-- A composite (JDWP, Event command set, Composite): the byte of a suspend policy, and a list of events.
--
-- `composite_at` reads one, `spell_composite` is its bytes, `FitsComposite` says that it has a spelling, and
-- `InRangeComposite` that its numbers are of their types.
use Rattle.std.specs.Prelude.{◌≡◌, ℕ, List, ◌++◌, length, Option, Some, None, Result, Ok, Err, ◌==◌, if◌then◌else◌}
use Rattle.std.specs.List.{AllByRecursion}
use Rattle.std.specs.Int.{bytes_high_first}
use Rattle.jdwp_values.specs.declared.fault.RowFault.{RowFault}
use Rattle.jdwp_values.specs.declared.fault.RowFault.TheVariants as faults
use Rattle.jdwp_values.specs.declared.fault.ValueFault.{ValueFault}
use Rattle.jdwp_values.specs.declared.fault.ValueFault.TheVariants as causes
use Rattle.jdwp_values.specs.declared.limit.Limit.TheVariants.{Any}
use Rattle.jdwp_values.specs.declared.sizes.IdSizes.{IdSizes}
use Rattle.jdwp_values.specs.Parts.{byte}
use Rattle.jdwp_values.specs.Reading.{Place, offset, part_at}
use Rattle.jdwp_values.specs.Rows.{◌>>=◌, in_row, list_at, spell_list, FitsList}
use Rattle.jdwp_events.specs.declared.composite.Composite.{Composite}
use Rattle.jdwp_events.specs.declared.composite.CompositeFault.{CompositeFault}
use Rattle.jdwp_events.specs.declared.composite.CompositeFault.TheVariants.{NoMemory, Short, BadKind, BadPolicy}
use Rattle.jdwp_events.specs.declared.composite.CompositeFault.TheVariants.{BadCount, BadTag, Trailing}
use Rattle.jdwp_events.specs.declared.kind.Policy.{Policy}
use Rattle.jdwp_events.specs.Events.{event_at, spell_event, FitsEvent, InRangeEvent}
use Rattle.jdwp_events.specs.Kinds.{byte_of_policy, policy_of_byte}

-- a part's fault, in a composite
abbrev pub fault_at : ValueFault → ℕ → CompositeFault
fault_at causes.Short at = Short at
fault_at causes.BadTag at = BadTag at
fault_at causes.BadCount at = BadCount at

-- an event's fault, in a composite
abbrev pub composite_fault : RowFault → CompositeFault
composite_fault faults.NoMemory = NoMemory
composite_fault (faults.Part trouble) = fault_at trouble.fault trouble.at
composite_fault (faults.BadKind at) = BadKind at

-- what was read of a composite, or the fault in it
abbrev pub in_composite : {A : Type 0} → Result A RowFault → Result A CompositeFault
in_composite (Ok x) = Ok x
in_composite (Err fault) = Err (composite_fault fault)

-- the policy, or the fault at its byte
abbrev pub policy_or_fault : Option Policy → ℕ → Result Policy CompositeFault
policy_or_fault (Some policy) at = Ok policy
policy_or_fault None at = Err (BadPolicy at)

-- all of the body was read
abbrev pub ended : Place → Composite → Result Composite CompositeFault
ended place composite = if length place.rest == 0 then Ok composite else Err (Trailing (offset place))

-- the composite that a body spells, or the first fault from the left
unfoldable pub composite_at : IdSizes → List ℕ → Result Composite CompositeFault
composite_at sizes body =
    let start : Place = record { sizes = sizes; body = body; rest = body } in
    in_composite (in_row (part_at byte start)) >>= λ b.
    policy_or_fault (policy_of_byte b.0) (offset start) >>= λ policy.
    in_composite (list_at Any event_at b.1) >>= λ events.
    ended events.1 (record { policy = policy; events = events.0 })

-- the policy's byte, the count of the events, and the events
unfoldable pub spell_composite : IdSizes → Composite → List ℕ
spell_composite sizes composite =
    bytes_high_first 1 (byte_of_policy composite.policy) ++ spell_list (spell_event sizes) composite.events

-- a composite that has a spelling: its ids fit, its texts and its list have fewer than 2 ^ 31 bytes and events
abbrev pub FitsComposite : IdSizes → Composite → Type 0
FitsComposite sizes composite = FitsList (FitsEvent sizes) composite.events

abbrev pub InRangeComposite : Composite → Type 0
InRangeComposite composite = AllByRecursion InRangeEvent composite.events

-- what a function answers is what reading gives, unless memory ran out
abbrev pub IsRead : Result Composite CompositeFault → Result Composite CompositeFault → Type 0
IsRead read (Ok composite) = read ≡ Ok composite
IsRead read (Err NoMemory) = Unit {0}
IsRead read (Err (Short at)) = read ≡ Err (Short at)
IsRead read (Err (BadKind at)) = read ≡ Err (BadKind at)
IsRead read (Err (BadPolicy at)) = read ≡ Err (BadPolicy at)
IsRead read (Err (BadCount at)) = read ≡ Err (BadCount at)
IsRead read (Err (BadTag at)) = read ≡ Err (BadTag at)
IsRead read (Err (Trailing at)) = read ≡ Err (Trailing at)

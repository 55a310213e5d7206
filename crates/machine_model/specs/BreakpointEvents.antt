-- The event that tells of a breakpoint, in every run (DAP specification, Events, Breakpoint). The laws stand at the
-- end, behind what they speak of.
use Rattle.std.specs.Prelude.{◌≡◌, false, true, List}
use Rattle.std.specs.List.{AllByRecursion, Contains}
use Rattle.dap_messages.specs.declared.told.Breakpoint.{Breakpoint}
use Rattle.dap_messages.specs.declared.told.Event.TheVariants as events
use Rattle.machine_model.specs.Breakpoints.{has_id, verified_told}
use Rattle.machine_model.specs.Due.{due}
use Rattle.machine_model.specs.Names.{Act, Attached, an_event}
use Rattle.machine_model.specs.Rest.{IsAtRest}
use Rattle.machine_model.specs.Runs.{Message, Run}
use Rattle.machine_model.specs.State.{Machine, State}
use Rattle.wish_sets.specs.Entries.{verified}
use Rattle.wish_sets.specs.declared.entry.VerifiedEntry.{VerifiedEntry}

-- it tells of a breakpoint that is verified, and that the client wasn't told to be
pub record IsNews (state : State) (told : Breakpoint) : Type 0 where
  pub entry : VerifiedEntry
  pub is_told : told ≡ verified_told state.options.lines_from_one entry
  pub is_verified : Contains (verified state.wishes) entry
  pub is_new : has_id state.bound entry.id ≡ false

-- A breakpoint is told once it is verified, and not again.
abbrev pub TellsVerified : Type 0
TellsVerified = (messages : List Message) (m : Machine) (told : Breakpoint) → Run messages m
    → (due false m).act ≡ Act.Tells (an_event (events.Breakpoint told)) → IsNews m.state told

-- At rest, once the session is attached, the client was told of each that is verified, by the event or in the response
-- that lists it.
abbrev pub TellsAll : Type 0
TellsAll = (messages : List Message) (m : Machine) → Run messages m → IsAtRest m → m.state.phase ≡ Attached
    → AllByRecursion (λ entry. has_id m.state.bound entry.id ≡ true) (verified m.state.wishes)

-- Steps, in every run (DAP specification, Next, StepIn and StepOut requests; JDWP, EventRequest command set, Set, Step). The
-- laws stand at the end, behind what they speak of.
use Rattle.std.specs.Prelude.{◌≡◌, List, false, true, None, Some}
use Rattle.dap_messages.specs.declared.told.Event.TheVariants as events
use Rattle.dap_messages.specs.declared.told.Stopped.{Stopped}
use Rattle.machine_model.specs.Due.{due}
use Rattle.machine_model.specs.Names.{Act, Attached, ThreadId, an_event}
use Rattle.machine_model.specs.Requests.{Wishes}
use Rattle.machine_model.specs.Rest.{IsAtRest}
use Rattle.machine_model.specs.Runs.{Message, Run}
use Rattle.machine_model.specs.State.{Machine}
use Rattle.wish_sets.specs.Wishes.{is_installed}
use Rattle.wish_sets.specs.declared.wish.Depth.{Depth}
use Rattle.wish_sets.specs.declared.wish.Wish.TheVariants as wish

-- no step is in flight, and no event request of one is installed
pub record HasNoStep (w : Wishes) : Type 0 where
  pub none_wished : w.wanted.step ≡ None
  pub none_installed : (thread : ThreadId) (depth : Depth) → is_installed w.installed (wish.Step thread depth) ≡ false

-- Where a stop is told, the step that was in flight is cleared.
abbrev pub ClearsSteps : Type 0
ClearsSteps = (messages : List Message) (m : Machine) (stop : Stopped) → Run messages m
    → (due false m).act ≡ Act.Tells (an_event (events.Stopped stop)) → HasNoStep m.state.wishes

-- At rest, once the session is attached, no event request of a step is installed in a stop, and else none but that of the
-- step in flight.
pub record IsStepAtRest (m : Machine) : Type 0 where
  pub in_stop : m.state.stopped ≡ true → HasNoStep m.state.wishes
  pub in_flight : (thread : ThreadId) (depth : Depth)
      → is_installed m.state.wishes.installed (wish.Step thread depth) ≡ true
      → m.state.wishes.wanted.step ≡ Some (record { thread = thread; depth = depth })

abbrev pub StepsAtRest : Type 0
StepsAtRest = (messages : List Message) (m : Machine) → Run messages m → IsAtRest m → m.state.phase ≡ Attached
    → IsStepAtRest m

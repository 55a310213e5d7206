-- Suspensions of the whole target, in every run (JDWP, Event command set, Composite; JDWP, VirtualMachine command set,
-- Resume). The laws stand at the end, behind what they speak of.
use Rattle.std.specs.Prelude.{◌≡◌, ◌+◌, List, [], None, false}
use Rattle.machine_model.specs.Binding.{AreAllBound}
use Rattle.machine_model.specs.Due.{due}
use Rattle.machine_model.specs.Knowing.{AreSaid, View}
use Rattle.machine_model.specs.Names.{Act, Attached, Does, Resume, Suspension}
use Rattle.machine_model.specs.Pending.{bit}
use Rattle.machine_model.specs.Requests.{effect_due}
use Rattle.machine_model.specs.Rest.{IsAtRest}
use Rattle.machine_model.specs.Runs.{Message, Run}
use Rattle.machine_model.specs.State.{Machine, State}

-- By the messages each composite that came was at its turn, a stop is in hand or not, and a suspension of the whole target
-- is held for a stop that is in hand, one as the entry that is held, and no other.
pub record IsHeld (messages : List Message) (state : State) : Type 0 where
  pub view : View
  pub said : AreSaid messages view
  pub none_waits : view.composites ≡ []
  pub stopped : view.stopped ≡ state.stopped
  pub held : view.held ≡ bit state.stopped + bit state.entry

-- no event request is to be set or cleared, and breakpoints are bound by all that is known
pub record IsBoundFirst (state : State) : Type 0 where
  pub none_due : effect_due state.wishes ≡ None
  pub bound : AreAllBound state

-- At rest, once the session is attached, the target runs on but for a stop in hand and the entry that is held.
abbrev pub RunsOn : Type 0
RunsOn = (messages : List Message) (m : Machine) → Run messages m → IsAtRest m → m.state.phase ≡ Attached
    → IsHeld messages m.state

-- Before a suspension is undone, each breakpoint that is wished in a class that was prepared is installed or refused.
abbrev pub BindsFirst : Type 0
BindsFirst = (messages : List Message) (m : Machine) (suspension : Suspension) → Run messages m
    → (due false m).act ≡ Act.Sends (Does (Resume suspension)) → IsBoundFirst m.state

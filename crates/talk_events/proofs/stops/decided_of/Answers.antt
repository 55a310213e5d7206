-- What was thrown is what the events throw, by the event requests that are wished.
use Rattle.std.proofs.Common.{◌≡◌, IfOk, List, ap, subst}
use Rattle.machine_model.specs.State.{State}
use Rattle.machine_model.specs.Stops.{decided_by, hits_in, holds_entry, stop_among, thrown_in}
use Rattle.machine_model.specs.declared.parts.Thrown.{Thrown}
use Rattle.talk_events.proofs.stops.decided_of.Goals as goal

pub returns : goal.returns
returns c =
    let state = c.args.state.now in
    let events = c.args.events.now in
    let stops = c.args.stops.now in
    let all : c.in_ok-thrown.thrown ≡ thrown_in state.wishes events =
    subst (λ wishes. c.in_ok-thrown.thrown ≡ thrown_in wishes events)
    (ap (λ (s : State). s.wishes) c.state.view_is) c.in_ok-thrown.ensures in
    subst (λ (thrown : List Thrown). IfOk c.decided_with.result (λ parts. parts.items
    ≡ decided_by state.stopped (holds_entry state events) thrown stops (stop_among stops
    (hits_in state.wishes events)))) all c.decided_with.ensures

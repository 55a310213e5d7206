-- The hit that is told is that of the events, by the event requests that are wished.
use Rattle.std.proofs.Common.{◌≡◌, Bool, IfOk, Option, ap, subst}
use Rattle.machine_model.specs.State.{State}
use Rattle.machine_model.specs.Stops.{decided_by, hits_in, holds_entry, stop_among}
use Rattle.machine_model.specs.declared.parts.Halt.{Halt}
use Rattle.talk_events.proofs.stops.decided_with.Goals as goal

pub returns : goal.returns
returns c =
    let state = c.args.state.now in
    let events = c.args.events.now in
    let stops = c.args.stops.now in
    let told = stop_among stops (hits_in state.wishes events) in
    let stop : c.in_ok-stop.stop ≡ told =
    subst (λ wishes. c.in_ok-stop.stop ≡ stop_among stops (hits_in wishes events))
    (ap (λ (s : State). s.wishes) c.state.view_is) c.in_ok-stop.ensures in
    subst (λ (stopped : Bool). IfOk c.decided_by.result (λ parts. parts.items
    ≡ decided_by stopped (holds_entry state events) c.args.thrown stops told)) c.is_stopped.ensures
    (subst (λ (holds : Bool). IfOk c.decided_by.result (λ parts. parts.items
    ≡ decided_by c.is_stopped.result holds c.args.thrown stops told)) c.holds_entry-holds.ensures
    (subst (λ (hit : Option Halt). IfOk c.decided_by.result (λ parts. parts.items
    ≡ decided_by c.is_stopped.result c.holds_entry-holds.result c.args.thrown stops hit)) stop c.decided_by.ensures))

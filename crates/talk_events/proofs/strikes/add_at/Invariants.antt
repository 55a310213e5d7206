use Rattle.std.proofs.Common.{◌≡◌, ◌++◌, drop, map}
use Rattle.machine_model.specs.Stops.{strike_at}
use Rattle.talk_events.proofs.strikes.add_at.Given as goal

abbrev pub invariant-loop-entry : goal.invariant-loop-entry
invariant-loop-entry l =
    l.strikes ++ map (strike_at l.thread l.at) (drop l.entry-index l.entries)
    ≡ l.initial.strikes ++ map (strike_at l.thread l.at) l.entries

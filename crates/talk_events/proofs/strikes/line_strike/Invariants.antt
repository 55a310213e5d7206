use Rattle.std.proofs.Common.{◌≡◌, drop, find}
use Rattle.talk_events.proofs.strikes.line_strike.Given as goal

abbrev pub invariant-loop-strike : goal.invariant-loop-strike
invariant-loop-strike l =
    find (λ strike. strike.entry.line) l.stops ≡ find (λ strike. strike.entry.line) (drop l.strike-index l.stops)

use Rattle.std.proofs.Common.{◌≡◌, map, take}
use Rattle.talk_plans.proofs.plans.passed_by.Given as goal

abbrev pub invariant-loop-strike : goal.invariant-loop-strike
invariant-loop-strike l = l.ids ≡ map (λ strike. strike.entry.id) (take l.strike-index l.strikes)

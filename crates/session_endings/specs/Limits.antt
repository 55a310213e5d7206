-- Which limits a session can be run with.
use Rattle.std.specs.Prelude.{◌≤◌, ◌<◌}
use Rattle.session_endings.specs.declared.ending.Limits.{Limits}

-- limits that a session can be run with: each is at least 1, and there are at most 2 ^ 40 happenings
pub record AreLimits (limits : Limits) : Type 0 where
  pub some_turns : 0 < limits.turns
  pub few_turns : limits.turns ≤ 1099511627776
  pub some_quiet : 0 < limits.quiet
  pub some_waiting : 0 < limits.waiting

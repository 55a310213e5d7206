use Rattle.std.proofs.Common.{◌≡◌, ◌+◌, ◌≤◌, drop}
use Rattle.session_summaries.specs.Bodies.{bodies_of, bodies_within}
use Rattle.session_summaries.specs.Requests.{requests_in}
use Rattle.session_summaries.proofs.requests.count_requests.Given as goal

-- what was counted, and what is left to count
abbrev pub invariant-loop-step : goal.invariant-loop-step
invariant-loop-step l = record {
  left : requests_in (bodies_of l.bytes)
      ≡ l.count + requests_in (bodies_within (drop l._step-index l.bytes) l.cutter.pending);
  few : l.count ≤ l._step-index;
}

use Rattle.std.proofs.Common.{length}
use Rattle.target_server.specs.Hearing.{Takes}
use Rattle.target_server.proofs.target.Target.take_all.Given as goal

-- some commands were taken
abbrev pub invariant-loop : goal.invariant-loop
invariant-loop l = Takes l.initial.self l.self

-- each takes bytes
abbrev pub decreases-loop : goal.decreases-loop
decreases-loop l = length l.self.heard.stream.pending

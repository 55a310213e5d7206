use Rattle.std.proofs.Common.{sym}
use Rattle.bridge_serve.specs.Following.{Says}
use Rattle.bridge_serve.proofs.Words.{says_nothing}
use Rattle.bridge_serve.proofs.saying.say.Goals as goal

pub returns-then-lacks_memory-clause-says : goal.returns-then-lacks_memory-clause-says
returns-then-lacks_memory-clause-says g c = says_nothing _ _ c.args.ending (sym c.if-lacks_memory.ensures)

pub returns-in-Ok-clause-says : goal.returns-in-Ok-clause-says
returns-in-Ok-clause-says g c = Says.all c.in-Ok.ensures.ok

pub returns-in-Err-clause-says : goal.returns-in-Err-clause-says
returns-in-Err-clause-says g c = Says.no_memory c.in-Err.ensures.err

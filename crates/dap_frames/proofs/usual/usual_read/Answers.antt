-- within the name so many of its bytes were read
use Rattle.std.proofs.Common.{rules, ◌∙◌, arith}
use Rattle.dap_frames.proofs.UsualLines.{in-name}
use Rattle.dap_frames.proofs.usual.usual_read.Goals as goal

pub returns-in-Name-None-Some-clause-said : goal.returns-in-Name-None-Some-clause-said
returns-in-Name-None-Some-clause-said c = in-name c.in-Name-None-Some.read (omega arith) (omega arith) ∙ search rules

-- within the name, and behind its colon
use Rattle.std.proofs.Common.{arith}
use Rattle.dap_frames.proofs.UsualLines.{in-name, behind-name}
use Rattle.dap_frames.proofs.usual.usual_reading.Goals as goal

pub returns-in-1-to-14 : goal.returns-in-1-to-14
returns-in-1-to-14 c = in-name c.args.read (omega arith) (omega arith)

pub returns-in_default : goal.returns-in_default
returns-in_default c = behind-name c.args.read (omega arith) (omega arith)

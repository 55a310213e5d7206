use Rattle.std.proofs.Common.{sym}
use Rattle.script_files.proofs.SizeLaws.{sizes_are}
use Rattle.script_files.proofs.read.sizes_of.Goals as goal

pub returns-in-Ok : goal.returns-in-Ok
returns-in-Ok c = sym (sizes_are _ _ c.in-Ok.ensures.ok)

-- what is said already stays said
use Rattle.std.proofs.Common.{sym}
use Rattle.dap_frames.proofs.Fronts.{header_kept}
use Rattle.dap_frames.proofs.front.header_by.Goals as goal

pub returns-in-Ends : goal.returns-in-Ends
returns-in-Ends c =
    sym ((header_kept c.args.head c.args.read c.args.pending.now c.requires.read).0 c.in-Ends.length c.in-Ends.header
    c.in-Ends.is)

pub returns-in-Refused : goal.returns-in-Refused
returns-in-Refused c =
    sym ((header_kept c.args.head c.args.read c.args.pending.now c.requires.read).1 c.in-Refused.fault
    c.in-Refused.place c.in-Refused.is)

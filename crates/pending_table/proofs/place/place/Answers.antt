use Rattle.std.proofs.Common.{◌∙◌}
use Rattle.pending_table.proofs.PlaceLaws.{placed}
use Rattle.pending_table.proofs.place.place.Goals as goal

pub returns : goal.returns
returns c = c.place_of.ensures ∙ placed c.args.id c.args.sent.now

use Rattle.std.proofs.Common.{◌∙◌, ap}
use Rattle.std.specs.Prelude.{is_some}
use Rattle.pending_table.proofs.PlaceLaws.{looked_up}
use Rattle.pending_table.proofs.place.waits.Goals as goal

pub returns : goal.returns
returns c = c.is_some.ensures ∙ ap is_some c.place_of.ensures ∙ looked_up c.args.id c.args.sent.now

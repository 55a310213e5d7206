use Rattle.jdwp_commands.specs.declared.asked.Replied.TheVariants as replies
use Rattle.world_model.proofs.KeptLaws.{refusals}
use Rattle.world_model.proofs.laws.what_is_refused_changes_nothing.Goals as goal

pub returns : goal.returns
returns c = λ w now effect code h. refusals w effect now (replies.Error code) h

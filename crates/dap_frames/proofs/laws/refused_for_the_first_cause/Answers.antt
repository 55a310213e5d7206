use Rattle.dap_frames.proofs.Refusals.{refused-just}
use Rattle.dap_frames.proofs.laws.refused_for_the_first_cause.Goals as goal

pub returns : goal.returns
returns c = refused-just

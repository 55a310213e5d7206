use Rattle.dap_frames.proofs.FrameLaws.{front-steady}
use Rattle.session_laws.proofs.DoneLaws.{is_done}
use Rattle.session_laws.proofs.laws.done_is_a_disconnect_that_succeeded.Goals as goal

pub returns : goal.returns
returns c = λ limits log messages turns e ended is. is_done front-steady ended is

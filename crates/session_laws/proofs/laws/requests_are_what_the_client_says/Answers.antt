use Rattle.dap_frames.proofs.FrameLaws.{front-steady}
use Rattle.session_laws.proofs.HearLaws.{are_heard}
use Rattle.session_laws.proofs.OverLaws.{are_heard_then}
use Rattle.session_laws.proofs.laws.requests_are_what_the_client_says.Goals as goal

pub returns : goal.returns
returns c = (
  λ limits log messages turns s going. are_heard front-steady going,
  λ limits log messages turns e ended. are_heard_then front-steady ended,
)

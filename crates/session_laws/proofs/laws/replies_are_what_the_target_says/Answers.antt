use Rattle.session_laws.proofs.GreetLaws.{are_replied}
use Rattle.session_laws.proofs.OverLaws.{are_replied_then}
use Rattle.session_laws.proofs.laws.replies_are_what_the_target_says.Goals as goal

pub returns : goal.returns
returns c = (
  λ limits log messages turns s going. are_replied going,
  λ limits log messages turns e ended. are_replied_then ended,
)

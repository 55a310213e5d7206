use Rattle.session_laws.proofs.TurnLaws.{are_turns, are_turns_then}
use Rattle.session_laws.proofs.laws.turns_are_waits.Goals as goal

pub returns : goal.returns
returns c = (
  λ limits log messages turns s going. are_turns going,
  λ limits log messages turns e ended. are_turns_then ended,
)

use Rattle.session_laws.proofs.SendLaws.{is_sent}
use Rattle.session_laws.proofs.SentLaws.{is_sent_in_all}
use Rattle.session_laws.proofs.laws.each_side_is_sent_its_messages.Goals as goal

pub returns : goal.returns
returns c = λ side. (
  λ limits log messages turns s going. is_sent side going,
  λ limits log messages turns e ended. is_sent_in_all side ended,
)

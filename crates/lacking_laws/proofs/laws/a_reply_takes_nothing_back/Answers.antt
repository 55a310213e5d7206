use Rattle.lacking_laws.proofs.Hearing.{leads_on}
use Rattle.lacking_laws.proofs.laws.a_reply_takes_nothing_back.Goals as goal

pub returns : goal.returns
returns c = leads_on

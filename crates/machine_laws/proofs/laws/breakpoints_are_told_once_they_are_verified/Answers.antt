-- A breakpoint is told once it is verified, and each is.
use Rattle.machine_laws.proofs.NewsLaws.{tells_news}
use Rattle.machine_laws.proofs.ToldLaws.{tells_all}
use Rattle.machine_laws.proofs.laws.breakpoints_are_told_once_they_are_verified.Goals as goal

pub returns-clause-news : goal.returns-clause-news
returns-clause-news c = tells_news

pub returns-clause-all : goal.returns-clause-all
returns-clause-all c = tells_all

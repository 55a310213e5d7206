use Rattle.bridge_serve.proofs.Whole.{served_nothing}
use Rattle.bridge_serve.proofs.serving.serve.Goals as goal

pub returns-in-Err-clause-session : goal.returns-in-Err-clause-session
returns-in-Err-clause-session g c = (served_nothing _ _).session

pub returns-in-Err-clause-keeps : goal.returns-in-Err-clause-keeps
returns-in-Err-clause-keeps g c = (served_nothing c.args.limits.now _).keeps

pub returns-in-Err-clause-blames : goal.returns-in-Err-clause-blames
returns-in-Err-clause-blames g c = (served_nothing c.args.limits.now _).blames

pub returns-in-Err-clause-idles : goal.returns-in-Err-clause-idles
returns-in-Err-clause-idles g c = (served_nothing c.args.limits.now _).idles

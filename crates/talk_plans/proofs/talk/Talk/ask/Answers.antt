use Rattle.talk_plans.proofs.TalkLaws.{first_sized}
use Rattle.talk_plans.proofs.talk.Talk.ask.Goals as goal

pub returns-clause-sized : goal.returns-clause-sized
returns-clause-sized c = λ state sized.
    first_sized state c.args.self.now c.ask.new.self.asked sized (rw (← c.self.view_is) c.in_ok-asked.ensures.more)

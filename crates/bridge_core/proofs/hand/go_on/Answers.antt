use Rattle.bridge_core.proofs.TalkLaws.{steps_so}
use Rattle.bridge_core.proofs.hand.go_on.Goals as goal

pub returns : goal.returns
returns c = λ talk m is.
    steps_so c.in_ok-next.next c.args.full c.args.state.now c.step_in.new.state talk c.step_in.new.hand
    c.let_go.new.hand m (c.in_ok-next.ensures talk is) c.let_go.ensures

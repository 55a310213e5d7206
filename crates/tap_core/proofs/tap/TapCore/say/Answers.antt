use Rattle.tap_core.specs.Cores.{state_in}
use Rattle.tap_core.specs.Names.{AskNext, HandOn, PassOn}
use Rattle.tap_core.proofs.DueLaws.{meant}
use Rattle.tap_core.proofs.SayLaws.{says_on}
use Rattle.tap_core.proofs.tap.TapCore.say.Goals as goal

pub returns-in-PassOn-clause-said : goal.returns-in-PassOn-clause-said
returns-in-PassOn-clause-said c = rw c.in-PassOn.is (λ unheard what is decides.
    let m = meant c.args.asks.now (state_in c.args.self.now unheard) what PassOn is decides in
    says_on what _ c.args.self.now _ unheard c.pass_on.result m.3 (c.pass_on.ensures.said m.0 m.1 m.2))

pub returns-in-HandOn-clause-said : goal.returns-in-HandOn-clause-said
returns-in-HandOn-clause-said c = rw c.in-HandOn.is (λ unheard what is decides.
    let m = meant c.args.asks.now (state_in c.args.self.now unheard) what HandOn is decides in
    says_on what _ c.args.self.now _ unheard c.hand_on.result m.3 (c.hand_on.ensures.said m.0 m.1 m.2))

pub returns-in-AskNext-clause-said : goal.returns-in-AskNext-clause-said
returns-in-AskNext-clause-said c = rw c.in-AskNext.is (λ unheard what is decides.
    let m = meant c.args.asks.now (state_in c.args.self.now unheard) what AskNext is decides in
    says_on what _ c.args.self.now _ unheard c.ask_next.result m.7
    (c.ask_next.ensures.said m.0 m.1 m.2 m.3 m.4 m.5 m.6))

use Rattle.std.proofs.lemmas.Result.{err_from_is_err_and}
use Rattle.bridge_core.specs.Calls.{Finds}
use Rattle.bridge_core.proofs.GoLaws.{asks_out, effect_out, ends_so, greets_out, may_ask, may_effect, rests_ready}
use Rattle.bridge_core.proofs.GoLaws.{rests_so, tells_out}
use Rattle.bridge_core.proofs.session.Core.out.Goals as goal

pub returns-in_err-go-clause-over : goal.returns-in_err-go-clause-over
returns-in_err-go-clause-over c =
    let gives = err_from_is_err_and c.from_residual.result c.from_residual.ensures.1 in
    rw (gives.1, gives.2) Finds.no_memory

pub returns-in_err-tell-in-Tell-clause-over : goal.returns-in_err-tell-in-Tell-clause-over
returns-in_err-tell-in-Tell-clause-over c =
    let gives = err_from_is_err_and c.from_residual-in_err-tell-in-Tell.result c.from_residual-in_err-tell-in-Tell.ensures.1 in
    rw (gives.1, gives.2) Finds.no_memory

pub returns-in_err-greeting-in-Greet-clause-over : goal.returns-in_err-greeting-in-Greet-clause-over
returns-in_err-greeting-in-Greet-clause-over c =
    let gives = err_from_is_err_and c.from_residual-in_err-greeting-in-Greet.result c.from_residual-in_err-greeting-in-Greet.ensures.1 in
    rw (gives.1, gives.2) Finds.no_memory

pub returns-in_err-effect-in-Send-clause-over : goal.returns-in_err-effect-in-Send-clause-over
returns-in_err-effect-in-Send-clause-over c =
    let gives = err_from_is_err_and c.from_residual-in_err-effect-in-Send.result c.from_residual-in_err-effect-in-Send.ensures.1 in
    rw (gives.1, gives.2) Finds.no_memory

pub returns-in_err-send-in-Send-clause-over : goal.returns-in_err-send-in-Send-clause-over
returns-in_err-send-in-Send-clause-over c =
    let gives = err_from_is_err_and c.from_residual-in_err-send-in-Send.result c.from_residual-in_err-send-in-Send.ensures.1 in
    rw (gives.1, gives.2) Finds.no_memory

pub returns-in_err-send-in-Ask-clause-over : goal.returns-in_err-send-in-Ask-clause-over
returns-in_err-send-in-Ask-clause-over c =
    let gives = err_from_is_err_and c.from_residual-in_err-send-in-Ask.result c.from_residual-in_err-send-in-Ask.ensures.1 in
    rw (gives.1, gives.2) Finds.no_memory

pub send-requires : goal.send-requires
send-requires c =
    may_effect c.args.self.now c.go.new.core c.in-Send.effect c.in_ok-effect-in-Send.effect
    (rw c.in-Send.is at c.in_ok-go.ensures.comes) c.in_ok-effect-in-Send.ensures

pub send-requires-in-Ask : goal.send-requires-in-Ask
send-requires-in-Ask c =
    may_ask c.args.self.now c.go.new.core c.in-Ask.question (rw c.in-Ask.is at c.in_ok-go.ensures.comes)

pub returns-in-Wait-clause-rest : goal.returns-in-Wait-clause-rest
returns-in-Wait-clause-rest c = rests_so c.args.self.now c.go.new.core (rw c.in-Wait.is at c.in_ok-go.ensures.comes)

pub returns-in-Wait-clause-ready : goal.returns-in-Wait-clause-ready
returns-in-Wait-clause-ready c =
    rests_ready c.args.self.now c.go.new.core (rw c.in-Wait.is at c.in_ok-go.ensures.comes)

pub returns-in_ok-tell-in-Tell-clause-sends : goal.returns-in_ok-tell-in-Tell-clause-sends
returns-in_ok-tell-in-Tell-clause-sends c =
    (tells_out c.args.self.now c.go.new.core c.tell.new.self c.in-Tell.told c.in_ok-tell-in-Tell.field-0.side
    c.in_ok-tell-in-Tell.field-0.bytes (rw c.in-Tell.is at c.in_ok-go.ensures.comes) c.in_ok-tell-in-Tell.ensures.ok).sends

pub returns-in_ok-tell-in-Tell-clause-ready : goal.returns-in_ok-tell-in-Tell-clause-ready
returns-in_ok-tell-in-Tell-clause-ready c =
    (tells_out c.args.self.now c.go.new.core c.tell.new.self c.in-Tell.told c.in_ok-tell-in-Tell.field-0.side
    c.in_ok-tell-in-Tell.field-0.bytes (rw c.in-Tell.is at c.in_ok-go.ensures.comes) c.in_ok-tell-in-Tell.ensures.ok).ready

pub returns-in_ok-greeting-in-Greet-clause-sends : goal.returns-in_ok-greeting-in-Greet-clause-sends
returns-in_ok-greeting-in-Greet-clause-sends c =
    (greets_out c.args.self.now c.go.new.core c.in_ok-greeting-in-Greet.field-0.side
    c.in_ok-greeting-in-Greet.field-0.bytes (rw c.in-Greet.is at c.in_ok-go.ensures.comes)
    c.in_ok-greeting-in-Greet.ensures.side c.in_ok-greeting-in-Greet.ensures.bytes).sends

pub returns-in_ok-greeting-in-Greet-clause-ready : goal.returns-in_ok-greeting-in-Greet-clause-ready
returns-in_ok-greeting-in-Greet-clause-ready c =
    (greets_out c.args.self.now c.go.new.core c.in_ok-greeting-in-Greet.field-0.side
    c.in_ok-greeting-in-Greet.field-0.bytes (rw c.in-Greet.is at c.in_ok-go.ensures.comes)
    c.in_ok-greeting-in-Greet.ensures.side c.in_ok-greeting-in-Greet.ensures.bytes).ready

pub returns-in_ok-send-in-Send-clause-sends : goal.returns-in_ok-send-in-Send-clause-sends
returns-in_ok-send-in-Send-clause-sends c =
    (effect_out c.args.self.now c.go.new.core c.send.new.self c.in-Send.effect c.in_ok-effect-in-Send.effect
    c.in_ok-send-in-Send.field-0.side c.in_ok-send-in-Send.field-0.bytes
    (rw c.in-Send.is at c.in_ok-go.ensures.comes) c.in_ok-effect-in-Send.ensures c.in_ok-send-in-Send.ensures).sends

pub returns-in_ok-send-in-Send-clause-ready : goal.returns-in_ok-send-in-Send-clause-ready
returns-in_ok-send-in-Send-clause-ready c =
    (effect_out c.args.self.now c.go.new.core c.send.new.self c.in-Send.effect c.in_ok-effect-in-Send.effect
    c.in_ok-send-in-Send.field-0.side c.in_ok-send-in-Send.field-0.bytes
    (rw c.in-Send.is at c.in_ok-go.ensures.comes) c.in_ok-effect-in-Send.ensures c.in_ok-send-in-Send.ensures).ready

pub returns-in_ok-send-in-Ask-clause-sends : goal.returns-in_ok-send-in-Ask-clause-sends
returns-in_ok-send-in-Ask-clause-sends c =
    (asks_out c.args.self.now c.go.new.core c.send-in-Ask.new.self c.in-Ask.question
    c.in_ok-send-in-Ask.field-0.side c.in_ok-send-in-Ask.field-0.bytes
    (rw c.in-Ask.is at c.in_ok-go.ensures.comes) c.in_ok-send-in-Ask.ensures).sends

pub returns-in_ok-send-in-Ask-clause-ready : goal.returns-in_ok-send-in-Ask-clause-ready
returns-in_ok-send-in-Ask-clause-ready c =
    (asks_out c.args.self.now c.go.new.core c.send-in-Ask.new.self c.in-Ask.question
    c.in_ok-send-in-Ask.field-0.side c.in_ok-send-in-Ask.field-0.bytes
    (rw c.in-Ask.is at c.in_ok-go.ensures.comes) c.in_ok-send-in-Ask.ensures).ready

pub returns-in-Over-clause-over : goal.returns-in-Over-clause-over
returns-in-Over-clause-over c =
    ends_so c.args.self.now c.go.new.core c.in-Over.finish c.ending_of.result
    (rw c.in-Over.is at c.in_ok-go.ensures.comes) c.ending_of.ensures

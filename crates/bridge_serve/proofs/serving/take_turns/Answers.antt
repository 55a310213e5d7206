use Rattle.std.proofs.Common.{arith}
use Rattle.std.proofs.lemmas.Result.{err_from_is_err_and}
use Rattle.bridge_serve.proofs.Whole.{first_turn, hears_last, handles_last, turns_on, is_idle, is_spent, runs_short}
use Rattle.bridge_serve.proofs.Whole.{may_hear, quiets_less, quiets_least}
use Rattle.bridge_serve.proofs.serving.take_turns.Goals as goal

pub returns-in_err-buffer-clause-err : goal.returns-in_err-buffer-clause-err
returns-in_err-buffer-clause-err g c =
    let gives = err_from_is_err_and c.from_residual.result c.from_residual.ensures.1 in
    rw (gives.1, gives.2) (runs_short _ _ _)

pub loop-turn-init : goal.loop-turn-init
loop-turn-init g c = record {
  now = rw (c.requires.fresh, c.new-inputs.ensures) (first_turn _ _ c.requires.client_open c.requires.target_open);
  patient = rw c.new-inputs.ensures (omega arith);
  few = rw c.new-inputs.ensures (omega arith);
  client_small = rw c.new-inputs.ensures (omega arith);
  target_small = rw c.new-inputs.ensures (omega arith);
  room = c.in_ok-buffer.ensures;
  stays = g.met.W.Wires.stays_so c.args.wires.now;
}

pub hear-requires-clause-is_open : goal.hear-requires-clause-is_open
hear-requires-clause-is_open g c = c.loop-turn.invariant.now.may_take.client

pub hear-requires-clause-client_small : goal.hear-requires-clause-client_small
hear-requires-clause-client_small g c =
    let small = c.loop-turn.invariant.client_small in
    let more = c.loop-turn-test.true in
    let few = c.requires.limits.few_turns in
    omega (arith, small, more, few)

pub hear-requires-clause-target_small : goal.hear-requires-clause-target_small
hear-requires-clause-target_small g c =
    let small = c.loop-turn.invariant.target_small in
    let more = c.loop-turn-test.true in
    let few = c.requires.limits.few_turns in
    omega (arith, small, more, few)

pub hear-requires-clause-few : goal.hear-requires-clause-few
hear-requires-clause-few g c =
    let small = c.loop-turn.invariant.few in
    let more = c.loop-turn-test.true in
    let few = c.requires.limits.few_turns in
    omega (arith, small, more, few)

pub handle-requires : goal.handle-requires
handle-requires g c =
    let now = c.loop-turn.invariant in
    (c.in_ok-hear.ensures.ok _ _
    (may_hear _ _ _ _ _ _ now.now (quiets_less _ c.inputs-in-loop-turn.view_is c.if-inputs-limits.false))).may_take

pub returns-in_err-hear-clause-err : goal.returns-in_err-hear-clause-err
returns-in_err-hear-clause-err g c =
    let exit = c.from_residual-in_err-hear in
    let gives = err_from_is_err_and exit.result exit.ensures.1 in
    let now = c.loop-turn.invariant in
    let may = may_hear _ _ _ _ _ _ now.now (quiets_less _ c.inputs-in-loop-turn.view_is c.if-inputs-limits.false) in
    rw (gives.1, gives.2)
    (hears_last _ _ _ _ _ _ now.now _ c.in_err-hear.field-0.0 c.loop-turn-test.true (c.in_err-hear.ensures.err _ _ may)
    c.in_err-hear.ensures.keeps)

pub returns-in_err-handle-clause-err : goal.returns-in_err-handle-clause-err
returns-in_err-handle-clause-err g c =
    let exit = c.from_residual-in_err-handle in
    let gives = err_from_is_err_and exit.result exit.ensures.1 in
    let now = c.loop-turn.invariant in
    let may = may_hear _ _ _ _ _ _ now.now (quiets_less _ c.inputs-in-loop-turn.view_is c.if-inputs-limits.false) in
    rw (gives.1, gives.2)
    (handles_last _ _ _ _ _ _ now.now _ _ _ _ c.in_err-handle.field-0.0 c.loop-turn-test.true
    (c.in_ok-hear.ensures.ok _ _ may)
    c.in_ok-hear.ensures.keeps c.in_err-handle.ensures.err)

pub loop-turn-preserved : goal.loop-turn-preserved
loop-turn-preserved g c =
    let now = c.loop-turn.invariant in
    let less = quiets_less _ c.inputs-in-loop-turn.view_is c.if-inputs-limits.false in
    let may = may_hear _ _ _ _ _ _ now.now less in
    let heard = c.in_ok-hear.ensures in
    let handled = c.in_ok-handle.ensures in
    let same_quiets = handled.ok.same_ends.quiets in
    let same_client = handled.ok.same_ends.client in
    let same_target = handled.ok.same_ends.target in
    let few = now.few in
    let client = now.client_small in
    let target = now.target_small in
    let quiets = heard.quiets in
    let client_grows = heard.client_grows in
    let target_grows = heard.target_grows in
    record {
      now =
          turns_on _ _ _ _ _ _ now.now _ _ _ _ _ c.loop-turn-test.true (heard.ok _ _ may) heard.keeps handled.ok
          (handled.waits _ now.now.same_limit);
      patient = omega (arith, same_quiets, quiets, less);
      few = omega (arith, same_quiets, quiets, few);
      client_small = omega (arith, same_client, client, client_grows);
      target_small = omega (arith, same_target, target, target_grows);
      room = now.room;
      stays = g.met.W.Wires.stays_on _ _ _ (g.met.W.Wires.stays_on _ _ _ now.stays heard.stays) handled.stays;
    }

pub returns-clause-ok : goal.returns-clause-ok
returns-clause-ok g c =
    let now = c.loop-turn.invariant in
    let last = c.loop-turn-test.false in
    let end = c.loop-turn.auto._turn-end in
    is_spent _ _ _ _ _ _ now.now (omega (arith, last, end))

pub returns-then-inputs-limits-clause-err : goal.returns-then-inputs-limits-clause-err
returns-then-inputs-limits-clause-err g c =
    let now = c.loop-turn.invariant in
    is_idle _ _ _ _ _ _ now.now c.loop-turn-test.true now.patient
    (quiets_least _ c.inputs-in-loop-turn.view_is c.if-inputs-limits.true)

use Rattle.std.proofs.Common.{◌≡◌, arith, rules}
use Rattle.std.specs.Prelude.{IsErrAnd}
use Rattle.break_rules.proofs.PieceLoop.{all_found, end_read, err_is, less_is_left, piece_read, step_is}
use Rattle.break_rules.proofs.messages.pieces_of.Goals as goal

pub returns-in_err-piece : goal.returns-in_err-piece
returns-in_err-piece c =
    let same : IsErrAnd c.from_residual.result (λ other. other ≡ c.in_err-piece.field-0.0) = c.from_residual.ensures.1 in
    err_is c.args.text.now c.loop-found.rest.now c.loop-found.found c.from_residual.result c.in_err-piece.field-0.0
    c.loop-found.invariant.1 c.in_err-piece.ensures same

pub loop-found-smaller : goal.loop-found-smaller
loop-found-smaller c =
    let at = piece_read c.loop-found.rest.now c.in-Some.piece c.in_ok-piece.field-0 c.in-Some.left c.in_ok-piece.ensures
    c.in-Some.is in
    let less = less_is_left c.loop-found.rest.now c.in-Some.left.now c.in-Some.piece at in omega arith

pub loop-found-preserved : goal.loop-found-preserved
loop-found-preserved c = (
  search rules,
  step_is c.args.text.now c.loop-found.rest.now c.in-Some.left.now c.loop-found.found c.push.new.self c.in-Some.piece
      c.loop-found.invariant.1
      (piece_read c.loop-found.rest.now c.in-Some.piece c.in_ok-piece.field-0 c.in-Some.left c.in_ok-piece.ensures
      c.in-Some.is) c.in_ok-push.ensures.ok,
)

pub returns : goal.returns
returns c =
    all_found c.args.text.now c.loop-found.rest.now c.loop-found.found c.loop-found.invariant.1
    (end_read c.loop-found.rest.now c.in_ok-piece.field-0 c.in_ok-piece.ensures c.in_default.is)

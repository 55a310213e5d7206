use Rattle.std.proofs.Common.{◌∙◌, ap, sym}
use Rattle.pending_table.specs.Places.{sent_in}
use Rattle.pending_table.proofs.PlaceLaws.{found_at, none_placed, first_at, first_is_pending, first_is_left_out}
use Rattle.pending_table.proofs.WindowLaws.{none_left_out}
use Rattle.pending_table.proofs.place.take_out.Goals as goal

pub returns-in_err-at-clause-taken : goal.returns-in_err-at-clause-taken
returns-in_err-at-clause-taken c =
    c.from_residual.ensures
    ∙ sym (none_placed c.args.id c.args.sent.now.items
    (found_at c.args.id c.args.sent.now.items _ _ _ c.as_slice.ensures.value c.place_of.ensures c.in_err-at.was))

pub returns-in_err-at-clause-others : goal.returns-in_err-at-clause-others
returns-in_err-at-clause-others c =
    sym (none_left_out c.args.id (sent_in c.args.sent.now.items) (none_placed c.args.id c.args.sent.now.items
    (found_at c.args.id c.args.sent.now.items _ _ _ c.as_slice.ensures.value c.place_of.ensures c.in_err-at.was)))

pub returns-clause-taken : goal.returns-clause-taken
returns-clause-taken c =
    sym (first_is_pending c.args.id _ _ _
    (first_at c.args.id c.args.sent.now.items c.in_ok-at.at c.remove.result
    (found_at c.args.id c.args.sent.now.items _ _ _ c.as_slice.ensures.value c.place_of.ensures c.in_ok-at.was)
    c.remove.ensures.value))

pub returns-clause-others : goal.returns-clause-others
returns-clause-others c =
    ap sent_in c.remove.ensures.items
    ∙ first_is_left_out c.args.id _ _ _
    (first_at c.args.id c.args.sent.now.items c.in_ok-at.at c.remove.result
    (found_at c.args.id c.args.sent.now.items _ _ _ c.as_slice.ensures.value c.place_of.ensures c.in_ok-at.was)
    c.remove.ensures.value)

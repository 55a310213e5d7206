use Rattle.std.proofs.Common.{◌∙◌, sym}
use Rattle.pending_table.proofs.TableLaws.{where_none, window_settled}
use Rattle.pending_table.proofs.WindowLaws.{left_out_once, none_left_out}
use Rattle.pending_table.proofs.window.Pending.settle.Goals as goal

pub invariant_of-self : goal.invariant_of-self
invariant_of-self c = window_settled c.args.id _ _ _ c.self.invariant c.take_out.ensures.others

pub returns-clause-err : goal.returns-clause-err
returns-clause-err c =
    rw c.ok_or.ensures.value (where_none c.take_out.result _ _ (λ none.
    let same = c.take_out.ensures.others ∙ none_left_out _ _ (sym c.take_out.ensures.taken ∙ none) in
    rw same c.self.view_is))

pub returns-clause-once : goal.returns-clause-once
returns-clause-once c = rw c.take_out.ensures.others (left_out_once _ _ c.self.invariant.apart)

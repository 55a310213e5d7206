use Rattle.bridge_core.proofs.LeavingLaws.{has_next, says_no_more}
use Rattle.bridge_core.proofs.session.Core.next_word.Goals as goal

pub returns-clause-none : goal.returns-clause-none
returns-clause-none c =
    rw (← c.self.view_is)
    (says_no_more c.next_of.result _ c.fill.new.words c.next_of.new.words c.args.ending.now c.in_ok-fill.ensures
    c.next_of.ensures)

pub returns-clause-some : goal.returns-clause-some
returns-clause-some c =
    rw (← c.self.view_is)
    (has_next c.next_of.result _ c.fill.new.words c.next_of.new.words c.args.ending.now c.in_ok-fill.ensures
    c.next_of.ensures)

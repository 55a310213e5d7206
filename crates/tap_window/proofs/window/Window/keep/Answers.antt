use Rattle.std.proofs.Common.{◌+◌, refl, arith}
use Rattle.tap_window.proofs.WindowLaws.{none_next, view_sent, window_sent}
use Rattle.tap_window.proofs.window.Window.keep.Goals as goal

pub invariant_of-self-2 : goal.invariant_of-self-2
invariant_of-self-2 c =
    window_sent c.self.inside.former c.self.inside.next _ _ (c.self.inside.former + 4294967296 + c.from.result) _ _ _ _
    _ _ c.args.owner _ _ c.self.invariant (omega (arith, c.if-self-ge-LAST_TURN.false))
    (omega (arith, c.from.ensures)) c.in_ok-insert.ensures.entries c.insert.ensures.ordered
    (none_next _ _ _ _ _ _ c.self.invariant c.self.view_is c.requires) c.former_behind-self-inside.ensures refl
    c.is_debuggers.ensures c.in_ok-debuggers.ensures c.is_question.ensures c.in_ok-questions.ensures

pub returns-clause-ok : goal.returns-clause-ok
returns-clause-ok c =
    view_sent c.self.inside.former c.self.inside.next _ _ (c.self.inside.former + 4294967296 + c.from.result) _ _ _
    c.args.owner _ c.self.invariant (omega (arith, c.from.ensures)) c.in_ok-insert.ensures.entries refl
    c.self.view_is

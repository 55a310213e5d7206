use Rattle.std.proofs.Common.{arith}
use Rattle.tap_window.proofs.WindowLaws.{view_settled, window_settled}
use Rattle.tap_window.proofs.window.Window.settle.Goals as goal

pub invariant_of-self : goal.invariant_of-self
invariant_of-self c =
    window_settled _ _ _ _ _ _ _ _ _ _ _ _ c.self.invariant c.remove-gone.ensures.entries
    c.remove-gone.ensures.ordered c.remove-gone.ensures.value c.has_debuggers.ensures c.less-self-inside.ensures
    c.has_question.ensures c.less-self-inside-2.ensures

pub returns : goal.returns
returns c =
    view_settled _ _ _ _ c.args.id _ _ _ _ c.self.invariant (omega (arith, c.ranges.id.fits)) c.key_of.ensures
    c.remove-gone.ensures.entries c.self.view_is

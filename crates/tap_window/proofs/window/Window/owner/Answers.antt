use Rattle.std.proofs.Common.{ℕ, ap, ◌∙◌, arith}
use Rattle.std.specs.BTreeMap.{is_at}
use Rattle.std.specs.Map.{lookup}
use Rattle.std.specs.Ordering.{nat_cmp}
use Rattle.tap_model.specs.States.{SentCommands, pending_under}
use Rattle.tap_window.proofs.WindowLaws.{found_under}
use Rattle.tap_window.proofs.window.Window.owner.Goals as goal

pub returns : goal.returns
returns c =
    c.owner_at.ensures
    ∙ (ap (λ (key : ℕ). lookup (is_at (nat_cmp key)) c.self.inside.sent.entries) c.key_of.ensures
    ∙ (found_under c.self.inside.former c.self.inside.next c.args.id c.self.inside.sent.entries
    c.self.invariant.begins (omega (arith, c.ranges.id.fits)) c.self.invariant.each
    ∙ ap (λ (w : SentCommands). pending_under c.args.id w.pending) c.self.view_is))

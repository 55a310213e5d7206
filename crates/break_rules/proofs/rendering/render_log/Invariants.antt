use Rattle.std.proofs.Common.{◌≡◌, ◌++◌, drop}
use Rattle.std.specs.String.{string_bytes}
use Rattle.break_rules.specs.Rendering.{rendered, rendered_from}
use Rattle.break_rules.proofs.rendering.render_log.Given as goal

-- what stands there, and what the pieces left say of the texts left, is the whole message
abbrev pub invariant-loop-piece : goal.invariant-loop-piece
invariant-loop-piece l = string_bytes l.text ++ rendered_from (drop l.piece-index l.template.pieces) l.left
    ≡ rendered l.fn.template l.fn.values

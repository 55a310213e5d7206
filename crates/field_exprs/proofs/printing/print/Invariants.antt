use Rattle.std.proofs.Common.{◌≡◌, ◌++◌, take, string_bytes}
use Rattle.std.specs.Prelude.{flat_map}
use Rattle.field_exprs.specs.Printing.{head_text, hop_text}
use Rattle.field_exprs.proofs.printing.print.Given as goal

-- the head and the hops so far are printed
abbrev pub invariant-loop-hop : goal.invariant-loop-hop
invariant-loop-hop l =
    string_bytes l.printed ≡ head_text l.expr.head ++ flat_map hop_text (take l.hop-index l.hop-items)

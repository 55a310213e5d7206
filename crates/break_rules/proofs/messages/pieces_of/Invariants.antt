use Rattle.std.proofs.Common.{length}
use denote.Text.{Utf8}
use denote.Shadow.{shadow}
use Rattle.break_rules.proofs.PieceLoop.{FindsAll}
use Rattle.break_rules.proofs.messages.pieces_of.Given as goal

-- the pieces are those that were found and those of what is left
abbrev pub invariant-loop-found : goal.invariant-loop-found
invariant-loop-found l = shadow (Utf8 l.rest) × FindsAll l.text l.found l.rest

abbrev pub decreases-loop-found : goal.decreases-loop-found
decreases-loop-found l = length l.rest

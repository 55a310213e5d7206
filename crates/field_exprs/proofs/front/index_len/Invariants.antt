use Rattle.std.proofs.Common.{◌≡◌, take}
use Rattle.std.specs.Str.Parse.{digits_value}
use Rattle.field_exprs.specs.Grammar.{BeginsIndex}
use Rattle.field_exprs.proofs.front.index_len.Given as goal

-- an index may begin with what was read so far
abbrev pub invariant-loop-end : goal.invariant-loop-end
invariant-loop-end l = (BeginsIndex (take l.end l.bytes)) × (l.value ≡ digits_value 10 (take l.end l.bytes))

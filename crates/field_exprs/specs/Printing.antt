-- An expression as it is written, with nothing that it could be written without.
use Rattle.std.specs.Prelude.{ℕ, List, ◌++◌, codes, decimal, flat_map}
use Rattle.field_exprs.specs.declared.expr.Expr.{Expr}
use Rattle.field_exprs.specs.declared.expr.Head.{Head}
use Rattle.field_exprs.specs.declared.expr.Head.TheVariants.{This, Name}
use Rattle.field_exprs.specs.declared.expr.Hop.{Hop}
use Rattle.field_exprs.specs.declared.expr.Hop.TheVariants.{Field, Index}

-- a head, as it is written
abbrev pub head_text : Head → List ℕ
head_text This = codes "this"
head_text (Name name) = name

-- a hop, as it is written
abbrev pub hop_text : Hop → List ℕ
hop_text (Field name) = codes "." ++ name
hop_text (Index n) = codes "[" ++ decimal n ++ codes "]"

-- an expression, as it is written
abbrev pub print : Expr → List ℕ
print e = head_text e.head ++ flat_map hop_text e.steps

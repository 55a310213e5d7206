-- What a log message says, by the texts of its expressions' values.
use Rattle.std.specs.Prelude.{ℕ, List, [], ◌∷◌, ◌++◌}
use Rattle.field_exprs.specs.declared.expr.Expr.{Expr}
use Rattle.break_rules.specs.declared.rule.Piece.{Piece}
use Rattle.break_rules.specs.declared.rule.Piece.TheVariants.{Plain, Path}
use Rattle.break_rules.specs.declared.rule.Template.{Template}

-- the expressions in it, in order
abbrev pub paths_in : List Piece → List Expr
paths_in [] = []
paths_in (Plain text ∷ others) = paths_in others
paths_in (Path e ∷ others) = e ∷ paths_in others

-- the pieces behind one another, the texts in order in the places of the expressions
abbrev pub rendered_from : List Piece → List (List ℕ) → List ℕ
rendered_from [] texts = []
rendered_from (Plain text ∷ others) texts = text ++ rendered_from others texts
rendered_from (Path e ∷ others) [] = rendered_from others []
rendered_from (Path e ∷ others) (text ∷ texts) = text ++ rendered_from others texts

abbrev pub rendered : Template → List (List ℕ) → List ℕ
rendered template texts = rendered_from template.pieces texts

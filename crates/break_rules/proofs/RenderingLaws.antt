-- A log message without an expression says what stands there.
use Rattle.std.proofs.Common.{◌≡◌, ℕ, List, [], ◌∷◌, ◌++◌, refl, sym, ap, ◌∙◌}
use Rattle.break_rules.specs.Grammar.{ArePieces, NoPlain}
use Rattle.break_rules.specs.Laws.{LogsPlain}
use Rattle.break_rules.specs.Rendering.{paths_in, rendered_from}
use Rattle.break_rules.specs.declared.rule.Piece.{Piece}
use Rattle.break_rules.specs.declared.rule.Piece.TheVariants.{Plain, Path}

-- behind plain text stands an expression or nothing
nothing_behind : (rest : List ℕ) (others : List Piece) → NoPlain others → ArePieces rest others → paths_in others ≡ []
    → (rest ≡ []) × (others ≡ [])
nothing_behind rest [] parted are none = (are, refl)
nothing_behind rest (Plain text ∷ others) parted are none = absurd parted
nothing_behind rest (Path e ∷ others) parted are none = cc

as_written : (text : List ℕ) (pieces : List Piece) → ArePieces text pieces → paths_in pieces ≡ []
    → rendered_from pieces [] ≡ text
as_written text [] are none = sym are
as_written text (Path e ∷ others) are none = cc
as_written text (Plain front ∷ others) (rest, is, filled, plain, parted, are) none =
    let last = nothing_behind rest others parted are none in
    ap (λ pieces. front ++ rendered_from pieces []) last.1 ∙ ap (λ bytes. front ++ bytes) (sym last.0) ∙ sym is

pub logs_plain : LogsPlain
logs_plain text template is none = as_written text template.pieces is.pieces none

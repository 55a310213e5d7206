-- What reading a part of an expression gives.
use Rattle.std.specs.Prelude.{◌≡◌, ◌≢◌, ℕ, List, [], ◌∷◌, ◌++◌, Option, None, Some}
use Rattle.std.specs.Borrow.{Bor}
use Rattle.field_exprs.specs.declared.expr.Hop.{Hop}
use Rattle.field_exprs.specs.declared.stuck.Stuck.{Stuck}
use Rattle.field_exprs.specs.declared.stuck.Stuck.TheVariants.{NoMemory, Before}
use Rattle.field_exprs.specs.Reading.{BreaksBefore, IsHopBefore}

-- reading a text of a language got stuck: memory was refused, or it breaks before what is left
abbrev pub IsStuck : (List ℕ → Type 0) → List ℕ → Stuck → Type 0
IsStuck Language text NoMemory = Unit {0}
IsStuck Language text (Before left) = BreaksBefore Language text left.now

-- a hop was read and added to those found, or none begins there
abbrev pub IsHopRead : List Hop → List Hop → List ℕ → Option (Bor (List ℕ)) → Type 0
IsHopRead old new text None =
    (new ≡ old) × ((rest : List ℕ) → text ≢ 46 ∷ rest) × ((rest : List ℕ) → text ≢ 91 ∷ rest)
IsHopRead old new text (Some left) = (hop : Hop) × IsHopBefore text left.now hop × (new ≡ old ++ hop ∷ [])

-- Texts of the expressions of a message, side by side, from the last piece to the first.
use lib.ListN.{get_or}
use Rattle.std.proofs.Common.{◌≡◌, ◌≤◌, ◌<◌, ◌-◌, ℕ, suc, List, [], ◌∷◌, drop, length, sym, ap, ◌∙◌, arith}
use Rattle.break_rules.specs.Rendering.{paths_in}
use Rattle.break_rules.specs.declared.rule.Piece.{Piece}
use Rattle.field_exprs.specs.declared.expr.Expr.{Expr}
use Rattle.machine_model.specs.Plans.{Need, Plan, Sight, after, beside, each, has, need}
use Rattle.look_ups.proofs.EachLaws.{left_at, nothing_left}

-- behind the last there are none
pub none_left : {B : Type 0} (sight : Sight) (f : Expr → Plan B) (pieces : List Piece) (n : ℕ) → length pieces ≤ n
    → has [] ≡ need sight (each f (paths_in (drop n pieces)))
unfolding need each
none_left sight f pieces n past = sym (ap (λ left. need sight (each f (paths_in left))) (nothing_left pieces n past))

-- one piece before those that were looked up
pub piece_more : {A : Type 0} (all : List Piece → A) (pieces : List Piece) (place : ℕ) (piece : Piece) (found : A)
    → 0 < place → place ≤ length pieces → piece ≡ get_or pieces (place - 1) piece
    → found ≡ all (piece ∷ drop place pieces) → found ≡ all (drop (place - 1) pieces)
piece_more all pieces place piece found some within at is =
    let next : suc (place - 1) ≡ place = omega arith in
    let left : drop (place - 1) pieces ≡ piece ∷ drop place pieces =
    left_at pieces (place - 1) piece (omega (arith, some, within)) at ∙ ap (λ n. piece ∷ drop n pieces) next in
    is ∙ sym (ap all left)

-- an expression before those that were looked up
pub one_before : {B : Type 0} (sight : Sight) (f : Expr → Plan B) (e : Expr) (others : List Piece) (text : Need B)
    (found all : Need (List B)) → text ≡ need sight (f e) → all ≡ after (beside text found) (λ two. has (two.0 ∷ two.1))
    → found ≡ need sight (each f (paths_in others)) → all ≡ need sight (each f (e ∷ paths_in others))
unfolding need each
one_before sight f e others text found all here is behind =
    is
    ∙ ap (λ n. after (beside n found) (λ two. has (two.0 ∷ two.1))) here
    ∙ ap (λ n. after (beside (need sight (f e)) n) (λ two. has (two.0 ∷ two.1))) behind

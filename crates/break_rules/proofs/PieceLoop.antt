-- Pieces are read one behind the other.
use Rattle.std.proofs.Common.{◌≡◌, ◌≤◌, ℕ, zero, suc, List, [], ◌∷◌, ◌++◌, length, sym, ap, subst, ◌∙◌, refl, arith}
use Rattle.std.proofs.Common.{Option, Some, None, Result, Ok, Err, append_assoc}
use Rattle.std.specs.Borrow.{Bor}
use Rattle.std.specs.Prelude.{IsErrAnd, option_map}
use Rattle.std.proofs.lemmas.List.{append-nil}
use Rattle.break_rules.specs.Fronts.{IsPieceRead}
use Rattle.break_rules.specs.Parsing.{IsRead, piece_at, pieces_at, pieces_by}
use Rattle.break_rules.specs.declared.rule.Piece.{Piece}
use Rattle.break_rules.specs.declared.rule.RuleFault.{RuleFault}
use Rattle.break_rules.specs.declared.rule.RuleFault.TheVariants.{NoMemory, Outside}
use Rattle.break_rules.proofs.MessageLaws.{IsFound, less_left, piece_is}

-- pieces behind those that were found
abbrev pub behind_found : List Piece → Option (List Piece) → Option (List Piece)
behind_found found others = option_map (λ more. found ++ more) others

-- how far is looked doesn't matter where it is far enough
far_enough : (n m : ℕ) (text : List ℕ) → length text ≤ n → length text ≤ m → pieces_at n text ≡ pieces_at m text
unfolding pieces_at
far_enough zero zero text within also = refl
far_enough zero (suc m) [] within also = refl
far_enough zero (suc m) (byte ∷ text) within also = absurd (omega arith)
far_enough (suc n) zero [] within also = refl
far_enough (suc n) zero (byte ∷ text) within also = absurd (omega arith)
far_enough (suc n) (suc m) text within also =
    by (λ left. pieces_at n left) (λ left. pieces_at m left) (far_enough n m) (piece_at text) (piece_is text)
  where
    by : (one two : List ℕ → Option (List Piece))
        → ((left : List ℕ) → length left ≤ n → length left ≤ m → one left ≡ two left)
        → (piece : Option (Option (Piece × List ℕ))) → IsFound text piece → pieces_by one piece ≡ pieces_by two piece
    by one two same None is = refl
    by one two same (Some None) is = refl
    by one two same (Some (Some piece)) is =
        ap (λ (others : Option (List Piece)). option_map (λ pieces. piece.0 ∷ pieces) others)
        (same piece.1 (less_left n text piece.1 piece.0 is within) (less_left m text piece.1 piece.0 is also))

-- where a piece was read, the others are those of what is left
pub next_is : (text left : List ℕ) (piece : Piece) → piece_at text ≡ Some (Some (piece, left))
    → pieces_at (length text) text ≡ option_map (λ pieces. piece ∷ pieces) (pieces_at (length left) left)
unfolding pieces_at
next_is [] left piece at = absurd cc
next_is (byte ∷ text) left piece at =
    let is = subst (IsFound (byte ∷ text)) at (piece_is (byte ∷ text)) in
    ap (λ (found : Option (Option (Piece × List ℕ))). pieces_by (λ rest. pieces_at (length text) rest) found) at
    ∙ ap (λ (others : Option (List Piece)). option_map (λ pieces. piece ∷ pieces) others)
    (far_enough (length text) (length left) left (less_left (length text) (byte ∷ text) left piece is (omega arith))
    (omega arith))

pub none_is : (text : List ℕ) → piece_at text ≡ None → pieces_at (length text) text ≡ None
unfolding pieces_at
none_is [] at = absurd cc
none_is (byte ∷ text) at =
    ap (λ (found : Option (Option (Piece × List ℕ))). pieces_by (λ rest. pieces_at (length text) rest) found) at

pub end_is : (text : List ℕ) → piece_at text ≡ Some None → pieces_at (length text) text ≡ Some []
unfolding pieces_at
end_is [] at = refl
end_is (byte ∷ text) at =
    ap (λ (found : Option (Option (Piece × List ℕ))). pieces_by (λ rest. pieces_at (length text) rest) found) at

-- one piece more was found
pub one_more : (found : List Piece) (piece : Piece) (others : Option (List Piece))
    → behind_found found (option_map (λ pieces. piece ∷ pieces) others) ≡ behind_found (found ++ piece ∷ []) others
one_more found piece None = refl
one_more found piece (Some others) = ap (λ (l : List Piece). Some l) (sym (append_assoc found (piece ∷ []) others))

pub nothing_found : (others : Option (List Piece)) → behind_found [] others ≡ others
nothing_found None = refl
nothing_found (Some others) = refl

pub less_is_left : (text left : List ℕ) (piece : Piece) → piece_at text ≡ Some (Some (piece, left))
    → suc (length left) ≤ length text
less_is_left [] left piece at = absurd cc
less_is_left (byte ∷ text) left piece at =
    let is = subst (IsFound (byte ∷ text)) at (piece_is (byte ∷ text)) in
    let less = less_left (length text) (byte ∷ text) left piece is (omega arith) in omega arith

-- The loop ------------------------------------------------------------------------------------------------------------

-- what was found before what is left is what the text is
abbrev pub FindsAll : List ℕ → List Piece → List ℕ → Type 0
FindsAll text found rest =
    behind_found found (pieces_at (length rest) rest) ≡ pieces_at (length text) text

pub step_is : (text rest left : List ℕ) (found more : List Piece) (piece : Piece) → FindsAll text found rest
    → piece_at rest ≡ Some (Some (piece, left)) → more ≡ found ++ piece ∷ [] → FindsAll text more left
step_is text rest left found more piece so_far at is =
    ap (λ (l : List Piece). behind_found l (pieces_at (length left) left)) is
    ∙ sym (one_more found piece (pieces_at (length left) left))
    ∙ ap (λ (others : Option (List Piece)). behind_found found others) (sym (next_is rest left piece at)) ∙ so_far

pub all_found : (text rest : List ℕ) (found : List Piece) → FindsAll text found rest → piece_at rest ≡ Some None
    → pieces_at (length text) text ≡ Some found
all_found text rest found so_far at =
    sym so_far ∙ ap (λ (others : Option (List Piece)). behind_found found others) (end_is rest at)
    ∙ ap (λ (l : List Piece). Some l) (append-nil found)

fault_is : (text rest : List ℕ) (found : List Piece) (fault : RuleFault) → FindsAll text found rest
    → IsPieceRead rest (Err fault) → IsRead {A = List Piece} (pieces_at (length text) text) (Err fault)
fault_is text rest found NoMemory so_far read = tt
fault_is text rest found Outside so_far read =
    sym so_far ∙ ap (λ (others : Option (List Piece)). behind_found found others) (none_is rest read)

pub err_is : (text rest : List ℕ) (found : List Piece) (result : Result (List Piece) RuleFault) (fault : RuleFault)
    → FindsAll text found rest → IsPieceRead rest (Err fault) → IsErrAnd result (λ other. other ≡ fault)
    → IsRead (pieces_at (length text) text) result
err_is text rest found (Ok pieces) fault so_far read same = absurd same
err_is text rest found (Err other) fault so_far read same =
    subst (λ (f : RuleFault). IsRead {A = List Piece} (pieces_at (length text) text) (Err f)) (sym same)
    (fault_is text rest found fault so_far read)

-- a piece that was read, as its parts
pub piece_read : (rest : List ℕ) (piece : Piece) (found : Option (Piece × Bor (List ℕ))) (here : Bor (List ℕ))
    → IsPieceRead rest (Ok found) → found ≡ Some (piece, here) → piece_at rest ≡ Some (Some (piece, here.now))
piece_read rest piece found here read is =
    read ∙ ap (λ (f : Option (Piece × Bor (List ℕ))). Some (option_map (λ (p : Piece × Bor (List ℕ)). (p.0, p.1.now)) f)) is

pub end_read : (rest : List ℕ) (found : Option (Piece × Bor (List ℕ))) → IsPieceRead rest (Ok found) → found ≡ None
    → piece_at rest ≡ Some None
end_read rest found read is =
    read ∙ ap (λ (f : Option (Piece × Bor (List ℕ))). Some (option_map (λ (p : Piece × Bor (List ℕ)). (p.0, p.1.now)) f)) is

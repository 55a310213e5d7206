-- A text is read as the log message that it is.
use Rattle.std.proofs.Common.{◌≡◌, ◌≢◌, ◌≤◌, ℕ, zero, suc, Bool, true, false, not, List, [], ◌∷◌, ◌++◌, length, take}
use Rattle.std.proofs.Common.{sym, ap, subst, ◌∙◌, refl, arith, Option, Some, None, Result, Ok, Err, append_assoc, length-append}
use Rattle.std.specs.Prelude.{◌==◌, nat_le, if◌then◌else◌, codes, option_map}
use Rattle.std.specs.List.{AllByRecursion, prefix_len}
use Rattle.std.proofs.lemmas.Bool.{eqb-true, eqb-false, le-leb, leb-true, ne_eqb}
use Rattle.field_exprs.specs.declared.expr.Expr.{Expr}
use Rattle.field_exprs.specs.Grammar.{IsExpr}
use Rattle.field_exprs.specs.Parsing.{behind, parsed}
use Rattle.field_exprs.specs.Reading.{Stops}
use Rattle.field_exprs.proofs.Fronts.{passes, stops}
use Rattle.field_exprs.proofs.Spans.{AllPassing}
use Rattle.break_rules.specs.Grammar.{ArePieces, IsNot, IsTemplate, NoPlain}
use Rattle.break_rules.specs.Laws.{ReadsTemplates}
use Rattle.break_rules.specs.Parsing.{closed, closed_by, in_braces, not_closed, not_open, of_pieces, path_piece, piece_at}
use Rattle.break_rules.specs.Parsing.{piece_by, pieces_at, pieces_by, template_of}
use Rattle.break_rules.specs.declared.rule.Piece.{Piece}
use Rattle.break_rules.specs.declared.rule.Piece.TheVariants.{Plain, Path}
use Rattle.break_rules.specs.declared.rule.Template.{Template}
use Rattle.break_rules.proofs.Cuts.{cut_is, cut_joined}
use Rattle.break_rules.proofs.SideLaws.{expr_is_parsed, parsed_is_expr}

-- Bytes ---------------------------------------------------------------------------------------------------------------

-- the test that a byte isn't this one
abbrev isnt : ℕ → ℕ → Bool
isnt other byte = not (byte == other)

passes_not : (other byte : ℕ) → byte ≢ other → isnt other byte ≡ true
passes_not other byte differs = ap (λ (b : Bool). not b) (ne_eqb byte other differs)

not_passes : (other byte : ℕ) → isnt other byte ≡ true → byte ≢ other
not_passes other byte pass = by (byte == other) refl pass
  where
    by : (b : Bool) → (byte == other) ≡ b → not b ≡ true → byte ≢ other
    by true e none = absurd cc
    by false e passed = eqb-false byte other e

all_pass : (other : ℕ) (bytes : List ℕ) → AllByRecursion (IsNot other) bytes → AllPassing (isnt other) bytes
all_pass other [] all = tt
all_pass other (byte ∷ bytes) all = (passes_not other byte all.0, all_pass other bytes all.1)

pass_all : (other : ℕ) (bytes : List ℕ) → AllPassing (isnt other) bytes → AllByRecursion (IsNot other) bytes
pass_all other [] all = tt
pass_all other (byte ∷ bytes) all = (not_passes other byte all.0, pass_all other bytes all.1)

-- From the grammar to what is read ------------------------------------------------------------------------------------

-- plain text before an expression or the end
plain_stops : (rest : List ℕ) (others : List Piece) → NoPlain others → ArePieces rest others → Stops not_open rest
plain_stops rest [] parted are = subst (Stops not_open) (sym are) tt
plain_stops rest (Plain text ∷ others) parted are = absurd parted
plain_stops rest (Path e ∷ others) parted are = subst (Stops not_open) (sym are.2) refl

-- an expression in braces, before what is left
braced : (inner rest : List ℕ) → 123 ∷ ((inner ++ codes "}") ++ rest) ≡ 123 ∷ (inner ++ 125 ∷ rest)
braced inner rest = ap (λ (l : List ℕ). 123 ∷ l) (append_assoc inner (codes "}") rest)

-- what a text is by whether it begins with `{`
abbrev by_open : Bool → ℕ → List ℕ → Option (Option (Piece × List ℕ))
by_open is_open byte bytes = piece_by (byte ∷ bytes) (if is_open then Some bytes else None)

plain_at : (front rest : List ℕ) → front ≢ [] → AllByRecursion (IsNot 123) front → Stops not_open rest
    → piece_at (front ++ rest) ≡ Some (Some (Plain front, rest))
plain_at [] rest some none stop = absurd (some refl)
plain_at (byte ∷ bytes) rest some none stop =
    let cut = cut_is not_open (byte ∷ bytes) rest (all_pass 123 (byte ∷ bytes) none) stop in
    ap (λ (b : Bool). by_open b byte (bytes ++ rest)) (ne_eqb byte 123 none.0)
    ∙ ap (λ (l : List ℕ). Some (Some (Plain l, behind not_open (byte ∷ (bytes ++ rest))))) cut.0
    ∙ ap (λ (l : List ℕ). Some (Some (Plain (byte ∷ bytes), l))) cut.1

path_at : (inner rest : List ℕ) (e : Expr) → AllByRecursion (IsNot 125) inner → parsed inner ≡ Ok e
    → piece_at (123 ∷ (inner ++ 125 ∷ rest)) ≡ Some (Some (Path e, rest))
path_at inner rest e none found =
    let cut = cut_is not_closed inner (125 ∷ rest) (all_pass 125 inner none) refl in
    ap (λ (l : List ℕ). closed (path_piece (parsed l)) (behind not_closed (inner ++ 125 ∷ rest))) cut.0
    ∙ ap (λ (l : List ℕ). closed (path_piece (parsed inner)) l) cut.1
    ∙ ap (λ (answer : Result Expr ℕ). closed (path_piece answer) (125 ∷ rest)) found

next_is : (n : ℕ) (text rest : List ℕ) (piece : Piece) (others : List Piece)
    → piece_at text ≡ Some (Some (piece, rest)) → pieces_at n rest ≡ Some others
    → pieces_at (suc n) text ≡ Some (piece ∷ others)
unfolding pieces_at
next_is n text rest piece others at more =
    ap (λ (found : Option (Option (Piece × List ℕ))). pieces_by (λ left. pieces_at n left) found) at
    ∙ ap (λ (found : Option (List Piece)). option_map (λ pieces. piece ∷ pieces) found) more

nothing_is : (n : ℕ) → pieces_at n [] ≡ Some []
unfolding pieces_at
nothing_is zero = refl
nothing_is (suc n) = refl

filled_length : (front : List ℕ) → front ≢ [] → 1 ≤ length front
filled_length [] some = absurd (some refl)
filled_length (byte ∷ bytes) some = omega arith

pieces_are : (n : ℕ) (text : List ℕ) (pieces : List Piece) → length text ≤ n → length text ≤ 4096
    → ArePieces text pieces → pieces_at n text ≡ Some pieces
pieces_are n text [] within short are =
    ap (λ (l : List ℕ). pieces_at n l) are ∙ nothing_is n
pieces_are zero text (Plain front ∷ others) within short are =
    let size = ap (λ (l : List ℕ). length l) are.1 in
    let sum = length-append front are.0 in
    let some = filled_length front are.2 in absurd (omega arith)
pieces_are (suc n) text (Plain front ∷ others) within short are =
    let rest = are.0 in
    let size = ap (λ (l : List ℕ). length l) are.1 in
    let sum = length-append front rest in
    let some = filled_length front are.2 in
    ap (λ (l : List ℕ). pieces_at (suc n) l) are.1
    ∙ next_is n (front ++ rest) rest (Plain front) others
    (plain_at front rest are.2 are.3 (plain_stops rest others are.4 are.5))
    (pieces_are n rest others (omega arith) (omega arith) are.5)
pieces_are zero text (Path e ∷ others) within short are =
    let size = ap (λ (l : List ℕ). length l) (are.2 ∙ braced are.0 are.1) in absurd (omega arith)
pieces_are (suc n) text (Path e ∷ others) within short are =
    let inner = are.0 in
    let rest = are.1 in
    let parts = are.2 ∙ braced inner rest in
    let size = ap (λ (l : List ℕ). length l) parts in
    let sum = length-append inner (125 ∷ rest) in
    ap (λ (l : List ℕ). pieces_at (suc n) l) parts
    ∙ next_is n (123 ∷ (inner ++ 125 ∷ rest)) rest (Path e) others
    (path_at inner rest e are.3 (expr_is_parsed inner e are.4 (omega arith)))
    (pieces_are n rest others (omega arith) (omega arith) are.5)

template_is : (text : List ℕ) (template : Template) → IsTemplate text template → template_of text ≡ Some template
unfolding template_of
template_is text template is =
    ap (λ (b : Bool). if b then option_map of_pieces (pieces_at (length text) text) else None)
    (le-leb (length text) 4096 is.short)
    ∙ ap (λ (found : Option (List Piece)). option_map of_pieces found)
    (pieces_are (length text) text template.pieces (omega arith) is.short is.pieces)

-- From what is read to the grammar ------------------------------------------------------------------------------------

-- what stands at the front of a text that isn't empty, as a piece
abbrev pub IsPieceAt : List ℕ → Piece → List ℕ → Type 0
IsPieceAt text (Plain front) rest =
    (text ≡ front ++ rest) × (front ≢ []) × AllByRecursion (IsNot 123) front × Stops not_open rest
IsPieceAt text (Path e) rest =
    (inner : List ℕ) × (text ≡ 123 ∷ (inner ++ 125 ∷ rest)) × AllByRecursion (IsNot 125) inner × IsExpr inner e

abbrev pub IsFound : List ℕ → Option (Option (Piece × List ℕ)) → Type 0
IsFound text None = Unit {0}
IsFound text (Some None) = text ≡ []
IsFound text (Some (Some piece)) = IsPieceAt text piece.0 piece.1

closed_is : (inner left : List ℕ) (answer : Result Expr ℕ) → parsed inner ≡ answer
    → AllPassing not_closed inner → Stops not_closed left
    → IsFound (123 ∷ (inner ++ left)) (closed (path_piece answer) left)
closed_is inner left (Err place) found all stop = tt
closed_is inner [] (Ok e) found all stop = tt
closed_is inner (byte ∷ left) (Ok e) found all stop = by (byte == 125) refl stop
  where
    by : (b : Bool) → (byte == 125) ≡ b → not b ≡ false
        → IsFound (123 ∷ (inner ++ byte ∷ left)) (closed_by (Path e) (if b then Some left else None))
    by false e stopped = absurd cc
    by true is stopped = (
      inner,
      ap (λ (n : ℕ). 123 ∷ (inner ++ n ∷ left)) (eqb-true byte 125 is),
      pass_all 125 inner all,
      parsed_is_expr inner e found,
    )

plain_is : (byte : ℕ) (bytes : List ℕ) → (byte == 123) ≡ false
    → IsPieceAt (byte ∷ bytes) (Plain (take (prefix_len not_open (byte ∷ bytes)) (byte ∷ bytes)))
    (behind not_open (byte ∷ bytes))
plain_is byte bytes e =
    let text = byte ∷ bytes in (
      cut_joined not_open text,
      some_front (not_open byte) (ap (λ (b : Bool). not b) e),
      pass_all 123 (take (prefix_len not_open text) text) (passes not_open text),
      stops not_open text,
    )
  where
    some_front : (b : Bool) → not_open byte ≡ true → take (prefix_len not_open (byte ∷ bytes)) (byte ∷ bytes) ≢ []
    some_front b pass none =
        let joined : byte ∷ bytes ≡ behind not_open (byte ∷ bytes) =
        cut_joined not_open (byte ∷ bytes) ∙ ap (λ (l : List ℕ). l ++ behind not_open (byte ∷ bytes)) none in
        let stop : not_open byte ≡ false = subst (Stops not_open) (sym joined) (stops not_open (byte ∷ bytes)) in
        absurd cc

pub piece_is : (text : List ℕ) → IsFound text (piece_at text)
piece_is [] = refl
piece_is (byte ∷ bytes) = by (byte == 123) refl
  where
    inner : List ℕ
    inner = take (prefix_len not_closed bytes) bytes

    by : (b : Bool) → (byte == 123) ≡ b → IsFound (byte ∷ bytes) (by_open b byte bytes)
    by true e =
        subst (λ (l : List ℕ). IsFound l (in_braces bytes))
        (ap (λ (n : ℕ). n ∷ (inner ++ behind not_closed bytes)) (sym (eqb-true byte 123 e))
        ∙ ap (λ (l : List ℕ). byte ∷ l) (sym (cut_joined not_closed bytes)))
        (closed_is inner (behind not_closed bytes) (parsed inner) refl (passes not_closed bytes) (stops not_closed bytes))
    by false e = plain_is byte bytes e

-- less is left behind a piece
pub less_left : (n : ℕ) (text rest : List ℕ) (piece : Piece) → IsPieceAt text piece rest → length text ≤ suc n
    → length rest ≤ n
less_left n text rest (Plain front) at within =
    let size = ap (λ (l : List ℕ). length l) at.0 in
    let sum = length-append front rest in
    let some = filled_length front at.1 in omega arith
less_left n text rest (Path e) at within =
    let size = ap (λ (l : List ℕ). length l) at.1 in
    let sum = length-append at.0 (125 ∷ rest) in omega arith

-- where a text begins with `{` or is empty its first piece isn't plain
no_plain : (text rest : List ℕ) (piece : Piece) (others : List Piece) → IsPieceAt text piece rest → Stops not_open text
    → NoPlain (piece ∷ others)
no_plain text rest (Path e) others at stop = tt
no_plain text rest (Plain []) others at stop = absurd (at.1 refl)
no_plain text rest (Plain (byte ∷ bytes)) others at stop =
    let no : not_open byte ≡ false = subst (Stops not_open) at.0 stop in
    let yes : not_open byte ≡ true = passes_not 123 byte at.2.0 in
    absurd cc

joined : (text rest : List ℕ) (piece : Piece) (others : List Piece) → IsPieceAt text piece rest
    → ArePieces rest others → (Stops not_open rest → NoPlain others) → ArePieces text (piece ∷ others)
joined text rest (Plain front) others at are parted = (rest, at.0, at.1, at.2, parted at.3, are)
joined text rest (Path e) others at are parted = (at.0, rest, at.1 ∙ sym (braced at.0 rest), at.2, at.3, are)

-- pieces that a text is, of which the first isn't plain where the text begins with no plain text
abbrev AreFound : List ℕ → List Piece → Type 0
AreFound text pieces = ArePieces text pieces × (Stops not_open text → NoPlain pieces)

pieces_from : (n : ℕ) (text : List ℕ) (pieces : List Piece) → length text ≤ n → pieces_at n text ≡ Some pieces
    → AreFound text pieces
unfolding pieces_at
pieces_from zero [] pieces within found =
    let none : [] ≡ pieces = cc in subst (AreFound []) none (refl, λ stop. tt)
pieces_from zero (byte ∷ text) pieces within found = absurd (omega arith)
pieces_from (suc n) text pieces within found =
    by (λ left. pieces_at n left) (pieces_from n) (piece_at text) (piece_is text) found
  where
    -- the pieces of shorter texts are found
    Finds : (List ℕ → Option (List Piece)) → Type 0
    Finds go = (left : List ℕ) (others : List Piece) → length left ≤ n → go left ≡ Some others → AreFound left others

    others_by : (go : List ℕ → Option (List Piece)) → Finds go → (piece : Piece × List ℕ)
        (others : Option (List Piece)) → IsPieceAt text piece.0 piece.1
        → go piece.1 ≡ others → option_map (λ found. piece.0 ∷ found) others ≡ Some pieces
        → AreFound text pieces
    others_by go finds piece None at e none = absurd cc
    others_by go finds piece (Some others) at e some =
        let same : piece.0 ∷ others ≡ pieces = cc in
        let rest = finds piece.1 others (less_left n text piece.1 piece.0 at within) e in
        subst (AreFound text) same (
          joined text piece.1 piece.0 others at rest.0 rest.1,
          no_plain text piece.1 piece.0 others at,
        )

    by : (go : List ℕ → Option (List Piece)) → Finds go → (piece : Option (Option (Piece × List ℕ)))
        → IsFound text piece → pieces_by go piece ≡ Some pieces → AreFound text pieces
    by go finds None is none = absurd cc
    by go finds (Some None) is some =
        let none : [] ≡ pieces = cc in subst (AreFound text) none (is, λ stop. tt)
    by go finds (Some (Some piece)) is some = others_by go finds piece (go piece.1) is refl some

template_from : (text : List ℕ) (template : Template) → template_of text ≡ Some template → IsTemplate text template
unfolding template_of
template_from text template found = by (nat_le (length text) 4096) refl found
  where
    pieces_by_them : (pieces : Option (List Piece)) → length text ≤ 4096 → pieces_at (length text) text ≡ pieces
        → option_map of_pieces pieces ≡ Some template → IsTemplate text template
    pieces_by_them None short e none = absurd cc
    pieces_by_them (Some pieces) short e some =
        let same : of_pieces pieces ≡ template = cc in
        subst (IsTemplate text) same
        (record { short = short; pieces = (pieces_from (length text) text pieces (omega arith) e).0 })

    by : (b : Bool) → nat_le (length text) 4096 ≡ b
        → (if b then option_map of_pieces (pieces_at (length text) text) else None) ≡ Some template
        → IsTemplate text template
    by false e none = absurd cc
    by true e some = pieces_by_them (pieces_at (length text) text) (leb-true (length text) 4096 e) refl some

pub reads_templates : ReadsTemplates
reads_templates = (template_is, template_from)

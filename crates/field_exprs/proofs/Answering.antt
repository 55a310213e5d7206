-- Reading gives one answer, and what is printed is read again.
use Rattle.std.proofs.Common.{◌≡◌, ℕ, ◌<◌, ◌≤◌, ◌^◌, List, [], ◌∷◌, ◌++◌, length}
use Rattle.std.proofs.Common.{sym, ap, subst, ◌∙◌, refl, arith, ◌⊎◌, inl, inr, length-append, append_assoc}
use Rattle.std.proofs.Common.{Result, Ok, Err}
use Rattle.std.specs.Prelude.{◌≢◌, codes, decimal, flat_map, MatchResult}
use Rattle.std.specs.Str.Parse.{digits_value}
use Rattle.std.proofs.lemmas.Fmt.{decimal_is_IsNumeral, length-decimal-le}
use Rattle.std.proofs.lemmas.Int.Digits.{digits_value-lt}
use Rattle.field_exprs.specs.declared.expr.Expr.{Expr}
use Rattle.field_exprs.specs.declared.expr.ExprFault.{ExprFault}
use Rattle.field_exprs.specs.declared.expr.ExprFault.TheVariants.{NoMemory, At}
use Rattle.field_exprs.specs.declared.expr.Head.{Head}
use Rattle.field_exprs.specs.declared.expr.Head.TheVariants.{This, Name}
use Rattle.field_exprs.specs.declared.expr.Hop.{Hop}
use Rattle.field_exprs.specs.declared.expr.Hop.TheVariants.{Field, Index}
use Rattle.field_exprs.specs.Grammar.{AreBlanks, BeginsIndex, IsHead, AreSteps, IsExpr}
use Rattle.field_exprs.specs.Printing.{head_text, hop_text, print}
use Rattle.field_exprs.specs.Reading.{GoesWrong, IsTooLong, longest_text, told_place, IsRead}
use Rattle.field_exprs.proofs.Spans.{same_first}
use Rattle.field_exprs.proofs.Tails.{tail_stops}
use Rattle.field_exprs.proofs.ReadSoFar.{field_only, index_only}
use Rattle.field_exprs.proofs.Wholes.{head_is_word, parts_are, expr_of}

-- One expression ------------------------------------------------------------------------------------------------------

blanks_are_no_hop : (text : List ℕ) (hop : Hop) (hops : List Hop) → AreBlanks text → ¬ AreSteps text (hop ∷ hops)
blanks_are_no_hop text (Field name) hops blank steps =
    let first = subst AreBlanks (steps.2 ∙ ap (λ (l : List ℕ). l ++ steps.1) steps.3.0) blank in
    absurd (let never = first.0 in cc)
blanks_are_no_hop text (Index n) hops blank steps =
    let first = subst AreBlanks (steps.2 ∙ ap (λ (l : List ℕ). l ++ steps.1) steps.3.1) blank in
    absurd (let never = first.0 in cc)

one_way : (text : List ℕ) (hops more : List Hop) → AreSteps text hops → AreSteps text more → hops ≡ more
one_way text [] [] steps others = refl
one_way text [] (hop ∷ more) steps others = absurd (blanks_are_no_hop text hop more steps others)
one_way text (hop ∷ hops) [] steps others = absurd (blanks_are_no_hop text hop hops others steps)
one_way text (Field name ∷ hops) (hop ∷ more) steps others =
    let rest = steps.1 in
    let found = field_only name rest steps.3.1 (tail_stops rest hops steps.4) rest (hop ∷ more) (same_first rest)
    (subst (λ (l : List ℕ). AreSteps l (hop ∷ more)) (steps.2 ∙ ap (λ (l : List ℕ). l ++ rest) steps.3.0) others) in
    ap (λ (l : List Hop). Field name ∷ l) (one_way rest hops found.0 steps.4 found.1) ∙ sym found.2
one_way text (Index n ∷ hops) (hop ∷ more) steps others =
    let rest = steps.1 in
    let digits = steps.3.0 in
    let found = index_only digits rest n steps.3.2 steps.3.3 steps.3.4 rest (hop ∷ more)
    (subst (λ (l : List ℕ). AreSteps l (hop ∷ more)) (steps.2 ∙ ap (λ (l : List ℕ). l ++ rest) steps.3.1
    ∙ ap (λ (l : List ℕ). 91 ∷ l) (append_assoc digits (codes "]") rest)) others) in
    ap (λ (l : List Hop). Index n ∷ l) (one_way rest hops found.0 steps.4 found.1) ∙ sym found.2

one_head : (text : List ℕ) (head other : Head) → IsHead text head → IsHead text other → head ≡ other
one_head text This This is also = refl
one_head text This (Name name) is also = absurd (also.1.1 (sym also.0 ∙ is))
one_head text (Name name) This is also = absurd (is.1.1 (sym is.0 ∙ also))
one_head text (Name name) (Name other) is also = ap (λ (l : List ℕ). Name l) (sym is.0 ∙ also.0)

pub one_expr : (text : List ℕ) (one other : Expr) → IsExpr text one → IsExpr text other → one ≡ other
one_expr text one other is also =
    let same = parts_are is.blanks is.head is.steps other is.before (head_is_word is.head one.head is.at_head)
    (tail_stops is.steps one.steps is.behind) (subst (λ (l : List ℕ). IsExpr l other) is.parts also) in
    let heads = one_head is.head one.head other.head is.at_head same.0 in
    let steps = one_way is.steps one.steps other.steps is.behind same.1 in
    let of : Head → List Hop → Expr = λ head hops. record { head = head; steps = hops } in
    ap (λ (h : Head). of h one.steps) heads ∙ ap (λ (l : List Hop). of other.head l) steps

-- One answer ----------------------------------------------------------------------------------------------------------

one_place : (text : List ℕ) (place other : ℕ) → GoesWrong text place → GoesWrong text other → place ≡ other
one_place text place other is also =
    let below = is.longest also.front also.left also.parts also.begins in
    let above = also.longest is.front is.left is.parts is.begins in
    let at = is.at in
    let other_at = also.at in omega arith

one_refusal : (text : List ℕ) (place other : ℕ) → GoesWrong text place ⊎ IsTooLong text place
    → GoesWrong text other ⊎ IsTooLong text other → place ≡ other
one_refusal text place other (inl wrong) (inl also) = one_place text place other wrong also
one_refusal text place other (inl wrong) (inr long) = absurd (wrong.outside long.accepted)
one_refusal text place other (inr long) (inl wrong) = absurd (wrong.outside long.accepted)
one_refusal text place other (inr long) (inr also) = long.at ∙ sym also.at

accepted_or_refused : (text : List ℕ) (e : Expr) (place : ℕ) → IsExpr text e → length text ≤ longest_text
    → ¬ (GoesWrong text place ⊎ IsTooLong text place)
accepted_or_refused text e place is short (inl wrong) = wrong.outside (e, is)
accepted_or_refused text e place is short (inr too) = let long = too.long in omega arith

pub one_answer : (text : List ℕ) (one other : Result Expr ExprFault) → IsRead text one → IsRead text other
    → one ≢ Err NoMemory → other ≢ Err NoMemory → one ≡ other
one_answer text (Ok one) (Ok other) is also given told = ap (λ (e : Expr). Ok e) (one_expr text one other is.0 also.0)
one_answer text (Ok one) (Err NoMemory) is also given told = absurd (told refl)
one_answer text (Ok one) (Err (At place)) is also given told =
    absurd (accepted_or_refused text one also.0 is.0 is.1 also.2)
one_answer text (Err NoMemory) other is also given told = absurd (given refl)
one_answer text (Err (At place)) (Ok other) is also given told =
    absurd (accepted_or_refused text other is.0 also.0 also.1 is.2)
one_answer text (Err (At place)) (Err NoMemory) is also given told = absurd (told refl)
one_answer text (Err (At place)) (Err (At other)) is also given told =
    ap (λ (n : ℕ). Err (At n))
    (is.1 ∙ ap told_place (one_refusal text is.0 also.0 is.2 also.2) ∙ sym also.1)

-- Printed -------------------------------------------------------------------------------------------------------------

-- the digits of an index as they are printed
pub record PrintedIndex (digits : List ℕ) (n : ℕ) : Type 0 where
  begins : BeginsIndex (decimal n)
  some : decimal n ≢ []
  value : digits_value 10 (decimal n) ≡ n
  shorter : length (decimal n) ≤ length digits

printed_index : (digits : List ℕ) (n : ℕ) → BeginsIndex digits → digits ≢ [] → digits_value 10 digits ≡ n
    → PrintedIndex digits n
printed_index [] n begins some is = absurd (some refl)
printed_index (byte ∷ bytes) n begins some is =
    let small = begins.small in
    let short = begins.short in
    let fits : n < 2 ^ 64 = omega arith in
    let numeral = decimal_is_IsNumeral n fits in
    let bound : n < 10 ^ length (byte ∷ bytes) =
    subst (λ (m : ℕ). m < 10 ^ length (byte ∷ bytes)) is (digits_value-lt 10 (byte ∷ bytes) begins.digital) in
    let size = length-decimal-le (length (byte ∷ bytes)) n (omega arith) bound fits in
    let some_digits = numeral.0.0 in
    let value = numeral.1 in
    record {
      begins = record { digital = numeral.0.1; short = omega arith; small = omega arith };
      some = λ none. let size_none = ap (λ (l : List ℕ). length l) none in omega arith;
      value = value;
      shorter = size;
    }

steps_printed : (text : List ℕ) (hops : List Hop) → AreSteps text hops
    → AreSteps (flat_map hop_text hops) hops × (length (flat_map hop_text hops) ≤ length text)
steps_printed text [] steps = (tt, omega arith)
steps_printed text (Field name ∷ hops) steps =
    let more = steps_printed steps.1 hops steps.4 in
    let whole = ap (λ (l : List ℕ). length l) (steps.2 ∙ ap (λ (l : List ℕ). l ++ steps.1) steps.3.0) in
    let size = length-append name steps.1 in
    let printed = length-append name (flat_map hop_text hops) in
    let shorter = more.1 in (
      (hop_text (Field name), flat_map hop_text hops, refl, (refl, steps.3.1), more.0),
      omega arith,
    )
steps_printed text (Index n ∷ hops) steps =
    let more = steps_printed steps.1 hops steps.4 in
    let digits = steps.3.0 in
    let index = printed_index digits n steps.3.2 steps.3.3 steps.3.4 in
    let whole = ap (λ (l : List ℕ). length l) (steps.2 ∙ ap (λ (l : List ℕ). l ++ steps.1) steps.3.1) in
    let size = length-append (digits ++ codes "]") steps.1 in
    let inner = length-append digits (codes "]") in
    let printed = length-append (decimal n ++ codes "]") (flat_map hop_text hops) in
    let printed_inner = length-append (decimal n) (codes "]") in
    let shorter = more.1 in
    let less = index.shorter in (
      (
        hop_text (Index n),
        flat_map hop_text hops,
        refl,
        (decimal n, refl, index.begins, index.some, index.value),
        more.0,
      ),
      omega arith,
    )

head_printed : (text : List ℕ) (head : Head) → IsHead text head → IsHead (head_text head) head × (head_text head ≡ text)
head_printed text This is = (refl, sym is)
head_printed text (Name name) is = ((refl, is.1), sym is.0)

pub expr_printed : (text : List ℕ) (e : Expr) → IsExpr text e → IsExpr (print e) e × (length (print e) ≤ length text)
expr_printed text e is =
    let steps = steps_printed is.steps e.steps is.behind in
    let head = head_printed is.head e.head is.at_head in
    let whole = ap (λ (l : List ℕ). length l) is.parts in
    let size = length-append is.blanks (is.head ++ is.steps) in
    let inner = length-append is.head is.steps in
    let printed = length-append (head_text e.head) (flat_map hop_text e.steps) in
    let same = ap (λ (l : List ℕ). length l) head.1 in
    let shorter = steps.1 in (
      expr_of [] (head_text e.head) (flat_map hop_text e.steps) e.head e.steps tt head.0 steps.0,
      omega arith,
    )

pub read_again : (text : List ℕ) (e : Expr) (result : Result Expr ExprFault) → IsExpr text e
    → length text ≤ longest_text
    → IsRead (print e) result → MatchResult result (λ other. other ≡ e) (λ fault. fault ≡ NoMemory)
read_again text e (Ok other) is short read = one_expr (print e) other e read.0 (expr_printed text e is).0
read_again text e (Err NoMemory) is short read = refl
read_again text e (Err (At place)) is short read =
    let printed = expr_printed text e is in
    let shorter = printed.1 in
    absurd (accepted_or_refused (print e) e read.0 printed.0 (omega arith) read.2)

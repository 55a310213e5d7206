-- A text is read as the condition that it is.
use Rattle.std.proofs.Common.{◌≡◌, ◌≤◌, ℕ, Bool, true, false, List, [], ◌∷◌, ◌++◌, length, take, sym, ap, subst}
use Rattle.std.proofs.Common.{◌∙◌, refl, arith, Option, Some, None, append_assoc, length-append}
use Rattle.std.specs.Prelude.{◌==◌, nat_le, if◌then◌else◌, option_and_then}
use Rattle.std.specs.List.{AllByRecursion, prefix_len}
use Rattle.std.proofs.lemmas.Bool.{le-leb, leb-true}
use Rattle.std.proofs.lemmas.Bool.Decides.{nat_tests}
use Rattle.std.proofs.lemmas.List.{append-nil}
use Rattle.field_exprs.specs.Parsing.{behind}
use Rattle.field_exprs.specs.Reading.{Stops}
use Rattle.field_exprs.proofs.Spans.{AllPassing}
use Rattle.break_rules.specs.Grammar.{IsCondition, IsPart, IsSides, sign_of}
use Rattle.break_rules.specs.Laws.{ReadsConditions}
use Rattle.break_rules.specs.Parsing.{compared_by, comparisons, condition_of, no_sign, side_of, sides_by, sign_in}
use Rattle.break_rules.specs.Parsing.{sign_or, two_sides}
use Rattle.break_rules.specs.declared.rule.Comparison.{Comparison}
use Rattle.break_rules.specs.declared.rule.Comparison.TheVariants as compare
use Rattle.break_rules.specs.declared.rule.Condition.{Condition}
use Rattle.break_rules.specs.declared.rule.Part.{Part}
use Rattle.break_rules.proofs.Cuts.{cut_is, cut_joined}
use Rattle.break_rules.proofs.SideLaws.{part_has_no_sign, side_from, side_is}
use Rattle.break_rules.proofs.SignLaws.{sign_from}

abbrev of : Part → Option (Comparison × Part) → Condition
of left rest = record { left = left; rest = rest }

-- what is read of a short text
abbrev read : List ℕ → Option Condition
read text = option_and_then (λ left. sides_by left (behind no_sign text)) (side_of (take (prefix_len no_sign text) text))

short_enough : (text : List ℕ) → length text ≤ 4096 → condition_of text ≡ read text
unfolding condition_of
short_enough text short =
    ap (λ (b : Bool). if b then read text else None) (le-leb (length text) 4096 short)

-- From the grammar to what is read ------------------------------------------------------------------------------------

no_equals : (byte : ℕ) → no_sign byte ≡ true → (byte == 61) ≡ false
no_equals byte e = grind (arith, nat_tests)

-- a comparison before what has no sign is found
sign_is : (comparison : Comparison) (second : List ℕ) → AllPassing no_sign second
    → sign_in comparisons (sign_of comparison ++ second) ≡ Some (comparison, second)
sign_is compare.Equal second none = refl
sign_is compare.Unequal second none = refl
sign_is compare.Less [] none = refl
sign_is compare.Less (byte ∷ bytes) none =
    ap (λ (b : Bool). sign_by b) (no_equals byte none.0)
  where
    sign_by : Bool → Option (Comparison × List ℕ)
    sign_by b = sign_or compare.LessEqual (if b then Some bytes else None) (Some (compare.Less, byte ∷ bytes))
sign_is compare.LessEqual second none = refl
sign_is compare.Greater [] none = refl
sign_is compare.Greater (byte ∷ bytes) none =
    ap (λ (b : Bool). sign_by b) (no_equals byte none.0)
  where
    sign_by : Bool → Option (Comparison × List ℕ)
    sign_by b = sign_or compare.GreaterEqual (if b then Some bytes else None) (Some (compare.Greater, byte ∷ bytes))
sign_is compare.GreaterEqual second none = refl

-- a comparison begins with a sign, and isn't empty
sign_stops : (comparison : Comparison) (second : List ℕ) → Stops no_sign (sign_of comparison ++ second)
sign_stops compare.Equal second = refl
sign_stops compare.Unequal second = refl
sign_stops compare.Less second = refl
sign_stops compare.LessEqual second = refl
sign_stops compare.Greater second = refl
sign_stops compare.GreaterEqual second = refl

-- and what stands from it on is compared
compared_is : (left : Part) (comparison : Comparison) (second : List ℕ)
    → sides_by left (sign_of comparison ++ second) ≡ compared_by left (sign_in comparisons (sign_of comparison ++ second))
compared_is left compare.Equal second = refl
compared_is left compare.Unequal second = refl
compared_is left compare.Less second = refl
compared_is left compare.LessEqual second = refl
compared_is left compare.Greater second = refl
compared_is left compare.GreaterEqual second = refl

front_and_rest : (left : Option Part) (front front' rest rest' : List ℕ) → front ≡ front' → rest ≡ rest'
    → side_of front' ≡ left
    → option_and_then (λ left. sides_by left rest) (side_of front) ≡ option_and_then (λ left. sides_by left rest') left
front_and_rest left front front' rest rest' one other is =
    ap (λ (l : List ℕ). option_and_then (λ left. sides_by left rest) (side_of l)) one
    ∙ ap (λ (l : List ℕ). option_and_then (λ left. sides_by left l) (side_of front')) other
    ∙ ap (λ (found : Option Part). option_and_then (λ left. sides_by left rest') found) is

alone_is : (text : List ℕ) (left : Part) → length text ≤ 4096 → IsPart text left → read text ≡ Some (of left None)
alone_is text left short is =
    let cut = cut_is no_sign text [] (part_has_no_sign text left is) tt in
    let whole = append-nil text in
    let front = ap (λ (l : List ℕ). take (prefix_len no_sign l) l) (sym whole) ∙ cut.0 in
    let rest = ap (λ (l : List ℕ). behind no_sign l) (sym whole) ∙ cut.1 in
    front_and_rest (Some left) (take (prefix_len no_sign text) text) text (behind no_sign text) [] front rest
    (side_is text left short is)

pair_is : (text first second : List ℕ) (left right : Part) (comparison : Comparison) → length text ≤ 4096
    → text ≡ first ++ (sign_of comparison ++ second) → IsPart first left → IsPart second right
    → read text ≡ Some (of left (Some (comparison, right)))
pair_is text first second left right comparison short parts is_left is_right =
    let signed = sign_of comparison ++ second in
    let cut = cut_is no_sign first signed (part_has_no_sign first left is_left) (sign_stops comparison second) in
    let size = ap (λ (l : List ℕ). length l) parts in
    let one = length-append first signed in
    let two = length-append (sign_of comparison) second in
    let front = ap (λ (l : List ℕ). take (prefix_len no_sign l) l) parts ∙ cut.0 in
    let rest = ap (λ (l : List ℕ). behind no_sign l) parts ∙ cut.1 in
    front_and_rest (Some left) (take (prefix_len no_sign text) text) first (behind no_sign text) signed front rest
    (side_is first left (omega arith) is_left)
    ∙ compared_is left comparison second
    ∙ ap (λ (found : Option (Comparison × List ℕ)). compared_by left found)
    (sign_is comparison second (part_has_no_sign second right is_right))
    ∙ ap (λ (found : Option Part). two_sides left comparison found) (side_is second right (omega arith) is_right)

sides_are : (text : List ℕ) (left : Part) (rest : Option (Comparison × Part)) → length text ≤ 4096
    → IsSides text left rest → read text ≡ Some (of left rest)
sides_are text left None short is = alone_is text left short is
sides_are text left (Some rest) short is =
    pair_is text is.0 is.1 left rest.1 rest.0 short (is.2 ∙ append_assoc is.0 (sign_of rest.0) is.1) is.3 is.4

condition_is : (text : List ℕ) (condition : Condition) → IsCondition text condition
    → condition_of text ≡ Some condition
condition_is text condition is =
    short_enough text is.short ∙ sides_are text condition.left condition.rest is.short is.sides

-- From what is read to the grammar ------------------------------------------------------------------------------------

written : AllByRecursion (λ (sign : List ℕ × Comparison). sign.0 ≡ sign_of sign.1) comparisons
written = (refl, (refl, (refl, (refl, (refl, (refl, tt))))))

sides_from : (text front rest : List ℕ) (left : Part) (condition : Condition) → length text ≤ 4096
    → text ≡ front ++ rest → IsPart front left → sides_by left rest ≡ Some condition → IsCondition text condition
sides_from text front [] left condition short parts is found =
    let same : of left None ≡ condition = cc in
    subst (IsCondition text) same (record {
      short = short;
      sides = subst (λ (l : List ℕ). IsPart l left) (sym (parts ∙ append-nil front)) is;
    })
sides_from text front (byte ∷ bytes) left condition short parts is found =
    by (sign_in comparisons (byte ∷ bytes)) refl found
  where
    right_by : (sign : Comparison × List ℕ) (right : Option Part) → byte ∷ bytes ≡ sign_of sign.0 ++ sign.1
        → side_of sign.1 ≡ right → two_sides left sign.0 right ≡ Some condition → IsCondition text condition
    right_by sign None at e none = absurd cc
    right_by sign (Some right) at e some =
        let same : of left (Some (sign.0, right)) ≡ condition = cc in
        subst (IsCondition text) same (record {
          short = short;
          sides = (
            front,
            sign.1,
            parts ∙ ap (λ (l : List ℕ). front ++ l) at ∙ sym (append_assoc front (sign_of sign.0) sign.1),
            is,
            side_from sign.1 right e,
          );
        })

    by : (sign : Option (Comparison × List ℕ)) → sign_in comparisons (byte ∷ bytes) ≡ sign
        → compared_by left sign ≡ Some condition → IsCondition text condition
    by None e none = absurd cc
    by (Some sign) e some =
        right_by sign (side_of sign.1) (sign_from sign_of comparisons written (byte ∷ bytes) sign e) refl some

condition_from : (text : List ℕ) (condition : Condition) → condition_of text ≡ Some condition
    → IsCondition text condition
unfolding condition_of
condition_from text condition found = by (nat_le (length text) 4096) refl found
  where
    front : List ℕ
    front = take (prefix_len no_sign text) text

    side_by : (left : Option Part) → length text ≤ 4096 → side_of front ≡ left
        → option_and_then (λ left. sides_by left (behind no_sign text)) left ≡ Some condition
        → IsCondition text condition
    side_by None short e none = absurd cc
    side_by (Some left) short e some =
        sides_from text front (behind no_sign text) left condition short (cut_joined no_sign text)
        (side_from front left e) some

    by : (b : Bool) → nat_le (length text) 4096 ≡ b → (if b then read text else None) ≡ Some condition
        → IsCondition text condition
    by false e none = absurd cc
    by true e some = side_by (side_of front) (leb-true (length text) 4096 e) refl some

pub reads_conditions : ReadsConditions
reads_conditions = (condition_is, condition_from)

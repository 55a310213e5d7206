-- A side of a condition is read as what it is by the grammar, and has no sign.
use Rattle.std.proofs.Common.{◌≡◌, ◌≢◌, ◌≤◌, ℕ, ℤ, Bool, true, false, List, [], ◌∷◌, ◌++◌, length, sym, ap, subst, ◌∙◌}
use Rattle.std.proofs.Common.{refl, arith, Option, Some, None, Result, Ok, Err}
use Rattle.std.specs.Prelude.{bytes_eq, codes, if◌then◌else◌}
use Rattle.std.specs.Cmp.Lexicographic.{bytes_decides}
use Rattle.std.proofs.lemmas.Bool.Decides.{nat_tests}
use Rattle.field_exprs.specs.declared.expr.Expr.{Expr}
use Rattle.field_exprs.specs.declared.expr.Hop.{Hop}
use Rattle.field_exprs.specs.declared.expr.Hop.TheVariants.{Field, Index}
use Rattle.field_exprs.specs.Grammar.{AreBlanks, AreSteps, IsExpr, is_blank, is_in_name}
use Rattle.field_exprs.specs.Parsing.{as_read, parsed}
use Rattle.field_exprs.specs.Reading.{IsRead}
use Rattle.field_exprs.proofs.Parsed.{parsed_is_read, read_is_parsed}
use Rattle.field_exprs.proofs.Spans.{AllPassing}
use Rattle.field_exprs.proofs.Tails.{word_passes}
use Rattle.field_exprs.proofs.Wholes.{head_is_word}
use Rattle.break_rules.specs.Grammar.{IsBetween, IsLiteral, IsPart, IsWhole}
use Rattle.break_rules.specs.Parsing.{core_of, no_sign, path_of, side_by, side_of, whole_in, whole_or}
use Rattle.break_rules.specs.declared.rule.Part.{Part}
use Rattle.break_rules.specs.declared.rule.Part.TheVariants as parts
use Rattle.break_rules.proofs.Cuts.{all_joined, all_weaker, between_is, between_parts, core_is, unblank}
use Rattle.break_rules.proofs.Digits.{digits_are_no_signs, is_whole, whole_has_no_sign, whole_is, whole_is_solid, whole_is_some}

-- Expressions ---------------------------------------------------------------------------------------------------------

-- a short text that is an expression is parsed as it
pub expr_is_parsed : (text : List ℕ) (e : Expr) → IsExpr text e → length text ≤ 4096 → parsed text ≡ Ok e
expr_is_parsed text e is short = read_is_parsed text (Ok e) (is, short)

-- and what is parsed as an expression is one
pub parsed_is_expr : (text : List ℕ) (e : Expr) → parsed text ≡ Ok e → IsExpr text e
parsed_is_expr text e found =
    (subst (λ (answer : Result Expr ℕ). IsRead text (as_read answer)) found (parsed_is_read text)).0

-- No signs ------------------------------------------------------------------------------------------------------------

blank_is_no_sign : (byte : ℕ) → is_blank byte ≡ true → no_sign byte ≡ true
blank_is_no_sign byte e = grind (arith, nat_tests)

name_is_no_sign : (byte : ℕ) → is_in_name byte ≡ true → no_sign byte ≡ true
name_is_no_sign byte e = grind (arith, nat_tests)

pub blanks_have_no_sign : (text : List ℕ) → AreBlanks text → AllPassing no_sign text
blanks_have_no_sign text blank = all_weaker is_blank no_sign blank_is_no_sign text blank

steps_have_no_sign : (text : List ℕ) (hops : List Hop) → AreSteps text hops → AllPassing no_sign text
steps_have_no_sign text [] steps = blanks_have_no_sign text steps
steps_have_no_sign text (Field name ∷ hops) steps =
    let hop = subst (AllPassing no_sign) (sym steps.3.0)
    (refl, all_weaker is_in_name no_sign name_is_no_sign name (word_passes name steps.3.1.0)) in
    subst (AllPassing no_sign) (sym steps.2)
    (all_joined no_sign steps.0 steps.1 hop (steps_have_no_sign steps.1 hops steps.4))
steps_have_no_sign text (Index n ∷ hops) steps =
    let digits = steps.3.0 in
    let hop = subst (AllPassing no_sign) (sym steps.3.1)
    (refl, all_joined no_sign digits (codes "]") (digits_are_no_signs digits steps.3.2.digital) (refl, tt)) in
    subst (AllPassing no_sign) (sym steps.2)
    (all_joined no_sign steps.0 steps.1 hop (steps_have_no_sign steps.1 hops steps.4))

expr_has_no_sign : (text : List ℕ) (e : Expr) → IsExpr text e → AllPassing no_sign text
expr_has_no_sign text e is =
    let head = all_weaker is_in_name no_sign name_is_no_sign is.head
    (word_passes is.head (head_is_word is.head e.head is.at_head)) in
    subst (AllPassing no_sign) (sym is.parts)
    (all_joined no_sign is.blanks (is.head ++ is.steps) (blanks_have_no_sign is.blanks is.before)
    (all_joined no_sign is.head is.steps head (steps_have_no_sign is.steps e.steps is.behind)))

literal_has_no_sign : (core : List ℕ) (part : Part) → IsLiteral core part → AllPassing no_sign core
literal_has_no_sign core part (IsLiteral.whole {n = n} is) = whole_has_no_sign core n is
literal_has_no_sign core part IsLiteral.is_true = (refl, (refl, (refl, (refl, tt))))
literal_has_no_sign core part IsLiteral.is_false = (refl, (refl, (refl, (refl, (refl, tt)))))
literal_has_no_sign core part IsLiteral.is_null = (refl, (refl, (refl, (refl, tt))))

pub part_has_no_sign : (text : List ℕ) (part : Part) → IsPart text part → AllPassing no_sign text
part_has_no_sign text part (IsPart.literal {core = core} between is) =
    subst (AllPassing no_sign) (sym (between_parts text core between))
    (all_joined no_sign between.before (core ++ between.behind)
    (blanks_have_no_sign between.before between.blank_before)
    (all_joined no_sign core between.behind (literal_has_no_sign core part is)
    (blanks_have_no_sign between.behind between.blank_behind)))
part_has_no_sign text part (IsPart.path {e = e} is none) = expr_has_no_sign text e is

-- Literals ------------------------------------------------------------------------------------------------------------

literal_is_solid : (core : List ℕ) (part : Part) → IsLiteral core part → AllPassing unblank core
literal_is_solid core part (IsLiteral.whole {n = n} is) = whole_is_solid core n is
literal_is_solid core part IsLiteral.is_true = (refl, (refl, (refl, (refl, tt))))
literal_is_solid core part IsLiteral.is_false = (refl, (refl, (refl, (refl, (refl, tt)))))
literal_is_solid core part IsLiteral.is_null = (refl, (refl, (refl, (refl, tt))))

literal_is_some : (part : Part) → ¬ IsLiteral [] part
literal_is_some part (IsLiteral.whole {n = n} is) = whole_is_some n is

filled : (core : List ℕ) (part : Part) → IsLiteral core part → core ≢ []
filled core part is none = literal_is_some part (subst (λ (l : List ℕ). IsLiteral l part) none is)

-- a whole number is none of the words
no_word : (word core : List ℕ) (n : ℤ) → whole_in word ≡ None → IsWhole core n → bytes_eq core word ≡ false
no_word word core n none is = by (bytes_eq core word) refl
  where
    by : (b : Bool) → bytes_eq core word ≡ b → b ≡ false
    by false e = refl
    by true e =
        let same = (bytes_decides core word).0 e in
        let some = sym (whole_is core n is) ∙ ap (λ (l : List ℕ). whole_in l) same ∙ none in
        absurd cc

abbrev by_tests : Bool → Bool → Bool → Option ℤ → List ℕ → Option Part
by_tests says_true says_false says_null number text =
    if says_true then Some (parts.Truth true) else (if says_false then Some (parts.Truth false)
    else (if says_null then Some parts.Null else whole_or number text))

literal_is_read : (core text : List ℕ) (part : Part) → IsLiteral core part → side_by core text ≡ Some part
literal_is_read core text part (IsLiteral.whole {n = n} is) =
    ap (λ (b : Bool). by_tests b (bytes_eq core (codes "false")) (bytes_eq core (codes "null")) (whole_in core) text)
    (no_word (codes "true") core n refl is)
    ∙ ap (λ (b : Bool). by_tests false b (bytes_eq core (codes "null")) (whole_in core) text)
    (no_word (codes "false") core n refl is)
    ∙ ap (λ (b : Bool). by_tests false false b (whole_in core) text) (no_word (codes "null") core n refl is)
    ∙ ap (λ (number : Option ℤ). whole_or number text) (whole_is core n is)
literal_is_read core text part IsLiteral.is_true = refl
literal_is_read core text part IsLiteral.is_false = refl
literal_is_read core text part IsLiteral.is_null = refl

-- Sides ---------------------------------------------------------------------------------------------------------------

-- what is read where no literal stands
path_is_read : (core text : List ℕ) (e : Expr) → ((part : Part) → ¬ IsLiteral core part) → parsed text ≡ Ok e
    → side_by core text ≡ Some (parts.Path e)
path_is_read core text e none found =
    by (bytes_eq core (codes "true")) (bytes_eq core (codes "false")) (bytes_eq core (codes "null")) (whole_in core)
    refl refl refl refl
  where
    literal : (word : List ℕ) (part : Part) → IsLiteral word part → bytes_eq core word ≡ true → ⊥
    literal word part is e =
        none part (subst (λ (l : List ℕ). IsLiteral l part) (sym ((bytes_decides core word).0 e)) is)

    by : (says_true says_false says_null : Bool) (number : Option ℤ) → bytes_eq core (codes "true") ≡ says_true
        → bytes_eq core (codes "false") ≡ says_false → bytes_eq core (codes "null") ≡ says_null → whole_in core ≡ number
        → by_tests says_true says_false says_null number text ≡ Some (parts.Path e)
    by true says_false says_null number a b c d = absurd (literal (codes "true") (parts.Truth true) IsLiteral.is_true a)
    by false true says_null number a b c d = absurd (literal (codes "false") (parts.Truth false) IsLiteral.is_false b)
    by false false true number a b c d = absurd (literal (codes "null") parts.Null IsLiteral.is_null c)
    by false false false (Some n) a b c d = absurd (none (parts.Number n) (IsLiteral.whole (is_whole core n d)))
    by false false false None a b c d = ap (λ (answer : Result Expr ℕ). path_of answer) found

pub side_is : (text : List ℕ) (part : Part) → length text ≤ 4096 → IsPart text part → side_of text ≡ Some part
side_is text part short (IsPart.literal {core = core} between is) =
    let same = ap (λ (l : List ℕ). core_of l) (between_parts text core between)
    ∙ core_is between.before core between.behind between.blank_before (filled core part is)
    (literal_is_solid core part is) between.blank_behind in
    ap (λ (l : List ℕ). side_by l text) same ∙ literal_is_read core text part is
side_is text part short (IsPart.path {e = e} is none) =
    path_is_read (core_of text) text e (λ part literal. none (core_of text) part (between_is text) literal)
    (expr_is_parsed text e is short)

literal_is_no_path : (answer : Result Expr ℕ) (core : List ℕ) (part : Part) → IsLiteral core part
    → path_of answer ≢ Some part
literal_is_no_path (Err place) core part is found = absurd cc
literal_is_no_path (Ok e) core part (IsLiteral.whole is) found = absurd cc
literal_is_no_path (Ok e) core part IsLiteral.is_true found = absurd cc
literal_is_no_path (Ok e) core part IsLiteral.is_false found = absurd cc
literal_is_no_path (Ok e) core part IsLiteral.is_null found = absurd cc

-- a text that is read as an expression has no literal between its blanks
no_literal : (text : List ℕ) → side_of text ≡ path_of (parsed text) → (core : List ℕ) (literal : Part)
    → IsBetween text core → ¬ IsLiteral core literal
no_literal text read core literal between is =
    let same = ap (λ (l : List ℕ). core_of l) (between_parts text core between)
    ∙ core_is between.before core between.behind between.blank_before (filled core literal is)
    (literal_is_solid core literal is) between.blank_behind in
    literal_is_no_path (parsed text) core literal is
    (sym read ∙ ap (λ (l : List ℕ). side_by l text) same ∙ literal_is_read core text literal is)

path_from : (text : List ℕ) (answer : Result Expr ℕ) (part : Part) → parsed text ≡ answer
    → ((core : List ℕ) (other : Part) → IsBetween text core → ¬ IsLiteral core other)
    → path_of answer ≡ Some part → IsPart text part
path_from text (Err place) part found none is = absurd cc
path_from text (Ok e) part found none is =
    let same : parts.Path e ≡ part = cc in
    subst (IsPart text) same (IsPart.path (parsed_is_expr text e found) none)

pub side_from : (text : List ℕ) (part : Part) → side_of text ≡ Some part → IsPart text part
side_from text part found =
    by (bytes_eq core (codes "true")) (bytes_eq core (codes "false")) (bytes_eq core (codes "null")) (whole_in core)
    refl refl refl refl found
  where
    core : List ℕ
    core = core_of text

    is_word : (word : List ℕ) (literal : Part) → IsLiteral word literal → bytes_eq core word ≡ true
        → Some literal ≡ Some part → IsPart text part
    is_word word literal is e some =
        let same : literal ≡ part = cc in
        subst (IsPart text) same (IsPart.literal (between_is text)
        (subst (λ (l : List ℕ). IsLiteral l literal) (sym ((bytes_decides core word).0 e)) is))

    by : (says_true says_false says_null : Bool) (number : Option ℤ) → bytes_eq core (codes "true") ≡ says_true
        → bytes_eq core (codes "false") ≡ says_false → bytes_eq core (codes "null") ≡ says_null → whole_in core ≡ number
        → by_tests says_true says_false says_null number text ≡ Some part → IsPart text part
    by true says_false says_null number a b c d some = is_word (codes "true") (parts.Truth true) IsLiteral.is_true a some
    by false true says_null number a b c d some = is_word (codes "false") (parts.Truth false) IsLiteral.is_false b some
    by false false true number a b c d some = is_word (codes "null") parts.Null IsLiteral.is_null c some
    by false false false (Some n) a b c d some =
        let same : parts.Number n ≡ part = cc in
        subst (IsPart text) same (IsPart.literal (between_is text) (IsLiteral.whole (is_whole core n d)))
    by false false false None a b c d some =
        path_from text (parsed text) part refl (no_literal text (
        ap (λ (bit : Bool). by_tests bit (bytes_eq core (codes "false")) (bytes_eq core (codes "null"))
        (whole_in core) text) a
        ∙ ap (λ (bit : Bool). by_tests false bit (bytes_eq core (codes "null")) (whole_in core) text) b
        ∙ ap (λ (bit : Bool). by_tests false false bit (whole_in core) text) c
        ∙ ap (λ (number : Option ℤ). whole_or number text) d)) some

-- What a text is parsed as is what it is read as, part by part.
use Rattle.std.proofs.Common.{◌≡◌, ℕ, zero, suc, ◌+◌, ◌-◌, ◌<◌, ◌≤◌, Bool, true, false, List, [], ◌∷◌, ◌++◌}
use Rattle.std.proofs.Common.{length, take, drop, get_or, min, Option, None, Some, Result, Ok, Err}
use Rattle.std.proofs.Common.{sym, ap, subst, ◌∙◌, refl, arith, inl, inr, add-one, length-append}
use Rattle.std.proofs.Math.Nat.{pow-le-pow_right}
use Rattle.std.specs.Prelude.{◌≢◌, ◌==◌, if◌then◌else◌, nat_le, bytes_eq, codes, MatchOption, MatchResult}
use Rattle.std.specs.Char.{digit_value, is_digit}
use Rattle.std.specs.Cmp.Lexicographic.{bytes_decides}
use Rattle.std.specs.List.{prefix_len}
use Rattle.std.specs.Str.Parse.{AllDigits, digits_value}
use Rattle.std.proofs.lemmas.Bool.{true≢false, eqb-true, eqb-false, ne_eqb, leb-true, leb-false, ltb-true, ltb-false}
use Rattle.std.proofs.lemmas.Bool.{cases_lt}
use Rattle.std.proofs.lemmas.Int.Digits.{digits_more, digits_value-lt}
use Rattle.std.proofs.lemmas.List.{length-take-le}
use Rattle.std.proofs.lemmas.List.Sums.{prefix_len-le-length, prefix_len_passes, prefix_len_stops}
use Rattle.field_exprs.specs.declared.expr.Expr.{Expr}
use Rattle.field_exprs.specs.declared.expr.ExprFault.{ExprFault}
use Rattle.field_exprs.specs.declared.expr.ExprFault.TheVariants.{NoMemory, At}
use Rattle.field_exprs.specs.declared.expr.Hop.{Hop}
use Rattle.field_exprs.specs.declared.expr.Hop.TheVariants.{Field, Index}
use Rattle.field_exprs.specs.Grammar.{is_blank, begins_name, is_in_name, BeginsIndex, AreSteps, IsExpr}
use Rattle.field_exprs.specs.Reading.{IsAccepted, IsTail, Stops, Skips, IsWordBefore, IsIndexBefore, IsHopBefore}
use Rattle.field_exprs.specs.Reading.{BreaksBefore, IsRead, longest_text}
use Rattle.field_exprs.specs.Parsing.{◌>>=◌, behind, word_at, head_of, field_of, field_at, no_greater, index_len}
use Rattle.field_exprs.specs.Parsing.{index_of, index_at, hop_at, none_left, steps_by, steps_at, expr_at, parsed_by}
use Rattle.field_exprs.specs.Parsing.{parsed, as_read, IsParsed}
use Rattle.field_exprs.proofs.Spans.{same_head}
use Rattle.field_exprs.proofs.Fronts.{skips, word_before, last_is_digit, ten_are_all, index_before}
use Rattle.field_exprs.proofs.HopBreaks.{field_breaks, this_breaks, index_breaks, index_before_close}
use Rattle.field_exprs.proofs.ReadSoFar.{nothing_read, hop_read, breaks_behind, all_read, end_breaks, break_behind}
use Rattle.field_exprs.proofs.Wholes.{head_is, expr_read, no_word, tail_breaks, goes_wrong}
use Rattle.field_exprs.proofs.Answering.{one_answer}

-- Words and fields ----------------------------------------------------------------------------------------------------

-- a word stands before what is left, or none begins the text
abbrev IsWordAt : List ℕ → Result (List ℕ × List ℕ) (List ℕ) → Type 0
IsWordAt text result =
    MatchResult result (λ word. IsWordBefore text word.0 word.1) (λ left. (left ≡ text) × Stops begins_name left)

word_is : (text : List ℕ) → IsWordAt text (word_at text)
word_is [] = (refl, tt)
word_is (byte ∷ bytes) = by (begins_name byte) refl
  where
    by : (b : Bool) → begins_name byte ≡ b
        → IsWordAt (byte ∷ bytes)
        (if b then Ok (take (prefix_len is_in_name (byte ∷ bytes)) (byte ∷ bytes), behind is_in_name (byte ∷ bytes))
        else Err (byte ∷ bytes))
    by true e =
        word_before (byte ∷ bytes) (take (prefix_len is_in_name (byte ∷ bytes)) (byte ∷ bytes))
        (behind is_in_name (byte ∷ bytes)) (prefix_len is_in_name (byte ∷ bytes)) byte refl e refl refl refl
    by false e = (refl, e)

-- a hop stands before what is left behind a sign, or the text behind the sign breaks
abbrev IsHopBehind : ℕ → List ℕ → Result (Hop × List ℕ) (List ℕ) → Type 0
IsHopBehind sign text result =
    MatchResult result (λ hop. IsHopBefore (sign ∷ text) hop.1 hop.0)
    (BreaksBefore (λ rest. IsTail (sign ∷ rest)) text)

field_of_word : (text : List ℕ) (word : List ℕ × List ℕ) → IsWordBefore text word.0 word.1
    → IsHopBehind 46 text (field_of word)
field_of_word text word before = by (bytes_eq word.0 (codes "this")) refl
  where
    by : (b : Bool) → bytes_eq word.0 (codes "this") ≡ b
        → IsHopBehind 46 text (if b then Err word.1 else Ok (Field word.0, word.1))
    by true e = (
      codes "this",
      before.parts ∙ ap (λ (l : List ℕ). l ++ word.1) ((bytes_decides word.0 (codes "this")).0 e),
      this_breaks word.1 before.stops,
    )
    by false e = (
      ap (λ (l : List ℕ). 46 ∷ l) before.parts,
      (before.is_word, λ same. true≢false (sym ((bytes_decides word.0 (codes "this")).1 same) ∙ e)),
      before.stops,
    )

field_is : (text : List ℕ) → IsHopBehind 46 text (field_at text)
field_is text = by (word_at text) (word_is text)
  where
    by : (result : Result (List ℕ × List ℕ) (List ℕ)) → IsWordAt text result
        → IsHopBehind 46 text (result >>= field_of)
    by (Ok word) before = field_of_word text word before
    by (Err left) none = ([], sym none.0, field_breaks left none.1)

-- Indices -------------------------------------------------------------------------------------------------------------

abbrev is_decimal : ℕ → Bool
is_decimal byte = is_digit byte 10

-- the first bytes of the digits at the front are digits
all_digits : (text : List ℕ) (n : ℕ) → n ≤ prefix_len is_decimal text → AllDigits 10 (take n text)
all_digits text zero within = tt
all_digits text (suc n) within =
    let size = prefix_len-le-length is_decimal text in
    let digit = prefix_len_passes is_decimal text n 0 (omega arith) in
    subst (λ (m : ℕ). AllDigits 10 (take m text)) (add-one n)
    (digits_more 10 text n (omega arith) (all_digits text n (omega arith))
    (ltb-true (digit_value (get_or text n 0)) 10 digit))

-- so many bytes at the front begin an index, and no more do
record IsIndexLen (text : List ℕ) (n : ℕ) : Type 0 where
  within : n ≤ length text
  begins : BeginsIndex (take n text)
  longest : n < length text → ¬ BeginsIndex (take (n + 1) text)

-- no digit stands behind the digits at the front
no_digit_behind : (text : List ℕ) (n : ℕ) → n ≡ prefix_len is_decimal text → n < length text
    → ¬ BeginsIndex (take (n + 1) text)
no_digit_behind text n is inside longer =
    let all = subst (λ (m : ℕ). AllDigits 10 (take m text)) (add-one n) longer.digital in
    let digit = last_is_digit text n inside all in
    let stop = subst (λ (m : ℕ). is_decimal (get_or text m 0) ≡ false) (sym is)
    (prefix_len_stops is_decimal text 0 (omega arith)) in
    let none = ltb-false (digit_value (get_or text n 0)) 10 stop in omega arith

-- the digits at the front, ten at most, are an index's where they aren't too great
all_fit : (text : List ℕ) (n : ℕ) → n ≡ min 10 (prefix_len is_decimal text)
    → digits_value 10 (take n text) ≤ 2147483647 → IsIndexLen text n
all_fit text n is small =
    let size = prefix_len-le-length is_decimal text in
    let taken = length-take-le n text (omega arith) in
    record {
      within = omega arith;
      begins = record { digital = all_digits text n (omega arith); short = omega arith; small = small };
      longest = λ inside longer. elim (cases_lt n 10) [
        | inl fewer ↦ no_digit_behind text n (omega arith) inside longer
        | inr ten ↦ ten_are_all text n (omega arith) inside longer
      ];
    }

-- fewer than ten digits are no greater than the greatest index
few_are_small : (digits : List ℕ) → AllDigits 10 digits → length digits ≤ 9 → digits_value 10 digits ≤ 2147483647
few_are_small digits all few =
    let below = digits_value-lt 10 digits all in
    let power = pow-le-pow_right {n = 10} (omega arith) {i = length digits} {j = 9} few in omega arith

-- and where they are, the first nine are
nine_fit : (text : List ℕ) (n : ℕ) → n ≡ min 10 (prefix_len is_decimal text)
    → 2147483647 < digits_value 10 (take n text) → IsIndexLen text 9
nine_fit text n is great =
    let size = prefix_len-le-length is_decimal text in
    let taken = length-take-le n text (omega arith) in
    let ten : n ≡ 10 = elim (cases_lt n 10) [
      | inl fewer ↦ absurd
          (let small = few_are_small (take n text) (all_digits text n (omega arith)) (omega arith) in omega arith)
      | inr more ↦ omega arith
    ] in
    let nine = all_digits text 9 (omega arith) in
    let size_of_nine = length-take-le 9 text (omega arith) in
    record {
      within = omega arith;
      begins = record {
        digital = nine;
        short = omega arith;
        small = few_are_small (take 9 text) nine (omega arith);
      };
      longest = λ inside longer.
          let small = longer.small in
          let greater = subst (λ (m : ℕ). 2147483647 < digits_value 10 (take m text)) ten great in omega arith;
    }

no_greater_is : (text : List ℕ) (n : ℕ) → n ≡ min 10 (prefix_len is_decimal text)
    → IsIndexLen text (no_greater text n)
no_greater_is text n is = by (nat_le (digits_value 10 (take n text)) 2147483647) refl
  where
    by : (b : Bool) → nat_le (digits_value 10 (take n text)) 2147483647 ≡ b → IsIndexLen text (if b then n else 9)
    by true e = all_fit text n is (leb-true (digits_value 10 (take n text)) 2147483647 e)
    by false e = nine_fit text n is (leb-false (digits_value 10 (take n text)) 2147483647 e)

index_of_digits : (text digits left : List ℕ) → IsIndexBefore text digits left
    → IsHopBehind 91 text (index_of digits left)
index_of_digits text [] left before = ([], before.parts, index_breaks text [] left before (inl refl))
index_of_digits text (digit ∷ digits) [] before =
    (digit ∷ digits, before.parts, index_breaks text (digit ∷ digits) [] before (inr (λ rest e. absurd cc)))
index_of_digits text (digit ∷ digits) (byte ∷ left) before = by (byte == 93) refl
  where
    by : (b : Bool) → (byte == 93) ≡ b
        → IsHopBehind 91 text
        (if b then Ok (Index (digits_value 10 (digit ∷ digits)), left) else Err (byte ∷ left))
    by true e =
        index_before_close text (digit ∷ digits) (byte ∷ left) left (digits_value 10 (digit ∷ digits)) before
        (ne_eqb (suc (length digits)) 0 (λ none. omega arith))
        (ap (λ (n : ℕ). n ∷ left) (eqb-true byte 93 e)) refl
    by false e = (
      digit ∷ digits,
      before.parts,
      index_breaks text (digit ∷ digits) (byte ∷ left) before
          (inr (λ rest same. eqb-false byte 93 e (same_head byte 93 left rest same))),
    )

index_is : (text : List ℕ) → IsHopBehind 91 text (index_at text)
index_is text =
    let n = index_len text in
    let is = no_greater_is text (min 10 (prefix_len is_decimal text)) refl in
    index_of_digits text (take n text) (drop n text)
    (index_before text (take n text) (drop n text) n is.within refl refl is.begins is.longest)

-- Hops ----------------------------------------------------------------------------------------------------------------

-- a hop stands before what is left, or the text breaks
abbrev IsHopAt : List ℕ → Result (Hop × List ℕ) (List ℕ) → Type 0
IsHopAt text result = MatchResult result (λ hop. IsHopBefore text hop.1 hop.0) (BreaksBefore IsTail text)

-- and there is none where the text begins otherwise
abbrev IsHopLookedFor : List ℕ → Option (Result (Hop × List ℕ) (List ℕ)) → Type 0
IsHopLookedFor text result =
    MatchOption result (((rest : List ℕ) → text ≢ 46 ∷ rest) × ((rest : List ℕ) → text ≢ 91 ∷ rest)) (IsHopAt text)

hop_behind : (sign byte : ℕ) (text : List ℕ) (result : Result (Hop × List ℕ) (List ℕ)) → byte ≡ sign
    → IsHopBehind sign text result → IsHopAt (byte ∷ text) result
hop_behind sign byte text (Ok hop) same before =
    subst (λ (n : ℕ). IsHopBefore (n ∷ text) hop.1 hop.0) (sym same) before
hop_behind sign byte text (Err left) same breaks =
    break_behind sign (byte ∷ text) text left (ap (λ (n : ℕ). n ∷ text) same) breaks

hop_is : (text : List ℕ) → IsHopLookedFor text (hop_at text)
hop_is [] = (λ rest e. absurd cc, λ rest e. absurd cc)
hop_is (byte ∷ text) = by (byte == 46) refl
  where
    by_index : (b : Bool) → (byte == 46) ≡ false → (byte == 91) ≡ b
        → IsHopLookedFor (byte ∷ text) (if b then Some (index_at text) else None)
    by_index true no_field e = hop_behind 91 byte text (index_at text) (eqb-true byte 91 e) (index_is text)
    by_index false no_field e = (
      λ rest same. eqb-false byte 46 no_field (same_head byte 46 text rest same),
      λ rest same. eqb-false byte 91 e (same_head byte 91 text rest same),
    )

    by : (b : Bool) → (byte == 46) ≡ b
        → IsHopLookedFor (byte ∷ text)
        (if b then Some (field_at text) else if byte == 91 then Some (index_at text) else None)
    by true e = hop_behind 46 byte text (field_at text) (eqb-true byte 46 e) (field_is text)
    by false e = by_index (byte == 91) e refl

-- less is left behind a hop
less_left : (n : ℕ) (text left : List ℕ) (hop : Hop) → length text ≤ suc n → IsHopBefore text left hop
    → length left ≤ n
less_left n text left (Field name) within before =
    let whole = ap (λ (l : List ℕ). length l) before.0 in
    let size = length-append name left in omega arith
less_left n text left (Index index) within before =
    let whole = ap (λ (l : List ℕ). length l) before.1 in
    let size = length-append before.0 left in
    let first = ap (λ (l : List ℕ). length l) before.2.1 in omega arith

-- Steps ---------------------------------------------------------------------------------------------------------------

-- a text is these steps, or it breaks
abbrev AreStepsAt : List ℕ → Result (List Hop) (List ℕ) → Type 0
AreStepsAt text result = MatchResult result (AreSteps text) (BreaksBefore IsTail text)

-- no steps are left where no hop begins
none_left_is : (text left : List ℕ) → Skips is_blank text left → ((rest : List ℕ) → text ≢ 46 ∷ rest)
    → ((rest : List ℕ) → text ≢ 91 ∷ rest) → AreStepsAt text (none_left left)
none_left_is text [] skips no_field no_index = all_read text [] text [] [] (nothing_read text) skips refl
none_left_is text (byte ∷ left) skips no_field no_index =
    end_breaks text (byte ∷ left) skips (λ e. absurd cc) no_field no_index

blanks_are_skipped : (text : List ℕ) → Skips is_blank text (behind is_blank text)
blanks_are_skipped text = skips is_blank text (behind is_blank text) (prefix_len is_blank text) refl refl

-- the steps behind a hop
steps_behind : (text left : List ℕ) (hop : Hop) (result : Result (List Hop) (List ℕ)) → IsHopBefore text left hop
    → AreStepsAt left result → AreStepsAt text (result >>= λ hops. Ok (hop ∷ hops))
steps_behind text left hop (Ok hops) before steps =
    let read = hop_read text [] text left [] hop (nothing_read text) before in
    subst (λ (l : List ℕ). AreSteps l (hop ∷ hops)) (sym read.1.parts) (read.1.onto left hops steps)
steps_behind text left hop (Err rest) before breaks =
    let read = hop_read text [] text left [] hop (nothing_read text) before in
    breaks_behind text read.0 left rest (hop ∷ []) read.1 breaks

steps_are : (n : ℕ) (text : List ℕ) → length text ≤ n → AreStepsAt text (steps_at n text)
unfolding steps_at
steps_are zero [] within = tt
steps_are zero (byte ∷ text) within = absurd (omega arith)
steps_are (suc n) text within = by (λ left. steps_at n left) (hop_at text) (steps_are n) (hop_is text)
  where
    by : (steps : List ℕ → Result (List Hop) (List ℕ)) (hop : Option (Result (Hop × List ℕ) (List ℕ)))
        → ((left : List ℕ) → length left ≤ n → AreStepsAt left (steps left))
        → IsHopLookedFor text hop → AreStepsAt text (steps_by steps text hop)
    by steps None are none =
        none_left_is text (behind is_blank text) (blanks_are_skipped text) none.0 none.1
    by steps (Some (Err left)) are breaks = breaks
    by steps (Some (Ok hop)) are before =
        steps_behind text hop.1 hop.0 (steps hop.1) before
        (are hop.1 (less_left n text hop.1 hop.0 within before))

-- Expressions ---------------------------------------------------------------------------------------------------------

-- a text is this expression, or it breaks
abbrev IsExprAt : List ℕ → Result Expr (List ℕ) → Type 0
IsExprAt text result = MatchResult result (IsExpr text) (BreaksBefore IsAccepted text)

expr_behind : (text rest word left : List ℕ) (result : Result (List Hop) (List ℕ)) → Skips is_blank text rest
    → IsWordBefore rest word left → AreStepsAt left result
    → IsExprAt text (result >>= λ hops. Ok (record { head = head_of word; steps = hops }))
expr_behind text rest word left (Ok hops) blanks before steps =
    expr_read text rest word left (head_of word) hops blanks before (head_is word before.is_word) steps
expr_behind text rest word left (Err behind_that) blanks before breaks =
    tail_breaks text rest word left behind_that blanks before breaks

expr_is : (text : List ℕ) → IsExprAt text (expr_at text)
expr_is text = by (word_at (behind is_blank text)) (word_is (behind is_blank text))
  where
    by : (result : Result (List ℕ × List ℕ) (List ℕ)) → IsWordAt (behind is_blank text) result
        → IsExprAt text
        (result >>= λ word.
        steps_at (length word.1) word.1 >>= λ hops. Ok (record { head = head_of word.0; steps = hops }))
    by (Ok word) before =
        expr_behind text (behind is_blank text) word.0 word.1 (steps_at (length word.1) word.1)
        (blanks_are_skipped text) before (steps_are (length word.1) word.1 (omega arith))
    by (Err left) none =
        subst (BreaksBefore IsAccepted text) (sym none.0)
        (no_word text (behind is_blank text) (blanks_are_skipped text) (subst (Stops begins_name) none.0 none.1))

-- Answers -------------------------------------------------------------------------------------------------------------

parsed_by_is : (text : List ℕ) (result : Result Expr (List ℕ)) → IsExprAt text result
    → IsRead text (as_read (parsed_by text result))
parsed_by_is text (Ok e) is = by (nat_le (length text) longest_text) refl
  where
    by : (b : Bool) → nat_le (length text) longest_text ≡ b
        → IsRead text (as_read (if b then Ok e else Err longest_text))
    by true short = (is, leb-true (length text) longest_text short)
    by false long = (
      longest_text,
      refl,
      inr (record { accepted = (e, is); long = leb-false (length text) longest_text long; at = refl }),
    )
parsed_by_is text (Err left) breaks = (length text - length left, refl, inl (goes_wrong text left breaks))

-- a text is read as it is parsed
pub parsed_is_read : (text : List ℕ) → IsRead text (as_read (parsed text))
unfolding parsed
parsed_is_read text = parsed_by_is text (expr_at text) (expr_is text)

as_parsed : (text : List ℕ) (result : Result Expr ExprFault) (answer : Result Expr ℕ) → parsed text ≡ answer
    → result ≡ as_read answer → IsParsed text result
as_parsed text (Ok e) (Ok other) is same = let alike : e ≡ other = cc in is ∙ ap (λ (x : Expr). Ok x) (sym alike)
as_parsed text (Ok e) (Err place) is same = absurd cc
as_parsed text (Err NoMemory) answer is same = tt
as_parsed text (Err (At place)) (Ok e) is same = absurd cc
as_parsed text (Err (At place)) (Err other) is same =
    let alike : place ≡ other = cc in is ∙ ap (λ (n : ℕ). Err n) (sym alike)

no_memory_is_not_parsed : (answer : Result Expr ℕ) → as_read answer ≢ Err NoMemory
no_memory_is_not_parsed (Ok e) same = absurd cc
no_memory_is_not_parsed (Err place) same = absurd cc

-- what is read of a text, unless memory is refused, is what it is parsed as
pub read_is_parsed : (text : List ℕ) (result : Result Expr ExprFault) → IsRead text result → IsParsed text result
read_is_parsed text (Ok e) is =
    as_parsed text (Ok e) (parsed text) refl
    (one_answer text (Ok e) (as_read (parsed text)) is (parsed_is_read text) (λ same. absurd cc)
    (no_memory_is_not_parsed (parsed text)))
read_is_parsed text (Err NoMemory) is = tt
read_is_parsed text (Err (At place)) is =
    as_parsed text (Err (At place)) (parsed text) refl
    (one_answer text (Err (At place)) (as_read (parsed text)) is (parsed_is_read text) (λ same. absurd cc)
    (no_memory_is_not_parsed (parsed text)))

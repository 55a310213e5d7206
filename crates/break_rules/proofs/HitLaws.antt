-- A text is read as the hit condition that it is.
use Rattle.std.proofs.Common.{◌≡◌, ◌≢◌, ◌<◌, ◌≤◌, ◌^◌, ℕ, Bool, true, false, List, [], ◌∷◌, ◌++◌, length, take, sym, ap}
use Rattle.std.proofs.Common.{subst, ◌∙◌, refl, arith, Option, Some, None, append_assoc}
use Rattle.std.specs.Prelude.{◌==◌, ◌&&◌, nat_le, nat_lt, if◌then◌else◌, option_and_then}
use Rattle.std.specs.Char.{digit_value}
use Rattle.std.specs.Cmp.Derive.{both_true}
use Rattle.std.specs.List.{AllByRecursion, prefix_len}
use Rattle.std.specs.Str.Parse.{AllDigits}
use Rattle.std.proofs.lemmas.Bool.{and_parts, le-leb, leb-true, lt-ltb, ltb-true, ne_eqb}
use Rattle.std.proofs.lemmas.Bool.Decides.{nat_tests}
use Rattle.std.proofs.lemmas.List.{append-nil}
use Rattle.std.proofs.lemmas.Option.{option_and_then_some}
use Rattle.std.proofs.lemmas.Str.Parse.{digit_from_value}
use Rattle.field_exprs.specs.Grammar.{AreBlanks, is_blank}
use Rattle.field_exprs.specs.Parsing.{behind}
use Rattle.field_exprs.specs.Reading.{Stops}
use Rattle.field_exprs.proofs.Fronts.{passes}
use Rattle.break_rules.specs.Grammar.{IsBetween, IsDigits, IsHit, IsSign}
use Rattle.break_rules.specs.Laws.{ReadsHits}
use Rattle.break_rules.specs.Parsing.{behind_sign, core_of, count_rules, counted, digits_in, hit_by, hit_of, sign_in, sign_or}
use Rattle.break_rules.specs.declared.rule.Hit.{Hit}
use Rattle.break_rules.specs.declared.rule.HitRule.{HitRule}
use Rattle.break_rules.specs.declared.rule.HitRule.TheVariants as counts
use Rattle.break_rules.proofs.Cuts.{all_joined, between_is, between_parts, core_is, cut_is, cut_joined}
use Rattle.break_rules.proofs.Digits.{are_digits, digit_is_no_blank, digits_are, digits_are_solid}
use Rattle.break_rules.proofs.SignLaws.{sign_from}

abbrev of : HitRule → ℕ → Hit
of rule count = record { rule = rule; count = count }

-- how a rule is written
abbrev write : HitRule → List ℕ
write counts.Equal = 61 ∷ 61 ∷ []
write counts.AtLeast = 62 ∷ 61 ∷ []
write counts.Above = 62 ∷ []
write counts.AtMost = 60 ∷ 61 ∷ []
write counts.Below = 60 ∷ []
write counts.Multiple = 37 ∷ []

written : AllByRecursion (λ (sign : List ℕ × HitRule). sign.0 ≡ write sign.1) count_rules
written = (refl, (refl, (refl, (refl, (refl, (refl, tt))))))

written_is_sign : (rule : HitRule) → IsSign (write rule) rule
written_is_sign counts.Equal = IsSign.equal
written_is_sign counts.AtLeast = IsSign.at_least
written_is_sign counts.Above = IsSign.above
written_is_sign counts.AtMost = IsSign.at_most
written_is_sign counts.Below = IsSign.less
written_is_sign counts.Multiple = IsSign.multiple

counted_is : (rule : HitRule) (n : ℕ) → 0 < n → n < 2 ^ 31 → counted rule n ≡ Some (of rule n)
counted_is rule n some small =
    ap (λ (b : Bool). if b then Some (of rule n) else None) (both_true (lt-ltb 0 n some) (lt-ltb n (2 ^ 31) small))

is_counted : (rule : HitRule) (n : ℕ) (hit : Hit) → counted rule n ≡ Some hit
    → (0 < n) × (n < 2 ^ 31) × (of rule n ≡ hit)
is_counted rule n hit found = by (nat_lt 0 n && nat_lt n (2 ^ 31)) refl found
  where
    by : (b : Bool) → (nat_lt 0 n && nat_lt n (2 ^ 31)) ≡ b → (if b then Some (of rule n) else None) ≡ Some hit
        → (0 < n) × (n < 2 ^ 31) × (of rule n ≡ hit)
    by false e none = absurd cc
    by true e some =
        let parts = and_parts (nat_lt 0 n) (nat_lt n (2 ^ 31)) e in
        (ltb-true 0 n parts.0, ltb-true n (2 ^ 31) parts.1, cc)

-- From the grammar to what is read ------------------------------------------------------------------------------------

-- a byte that begins no sign
record BeginsNone (byte : ℕ) : Type 0 where
  equals : (byte == 61) ≡ false
  above : (byte == 62) ≡ false
  below : (byte == 60) ≡ false
  percent : (byte == 37) ≡ false

blank_begins : (byte : ℕ) → is_blank byte ≡ true → BeginsNone byte
blank_begins byte blank = record {
  equals = grind (arith, nat_tests);
  above = grind (arith, nat_tests);
  below = grind (arith, nat_tests);
  percent = grind (arith, nat_tests);
}

digit_begins : (byte : ℕ) → digit_value byte < 10 → BeginsNone byte
digit_begins byte small =
    let range = digit_from_value byte small in
    let first = range.0 in
    let last = range.1 in
    record {
      equals = ne_eqb byte 61 (λ e. omega arith);
      above = ne_eqb byte 62 (λ e. omega arith);
      below = ne_eqb byte 60 (λ e. omega arith);
      percent = ne_eqb byte 37 (λ e. omega arith);
    }

-- blanks and then digits begin with no sign
abbrev BeginsCount : List ℕ → Type 0
BeginsCount [] = ⊥
BeginsCount (byte ∷ bytes) = BeginsNone byte

count_begins : (before digits after : List ℕ) → AreBlanks before → AllDigits 10 digits → digits ≢ []
    → BeginsCount (before ++ (digits ++ after))
count_begins [] [] after blank all some = absurd (some refl)
count_begins [] (digit ∷ digits) after blank all some = digit_begins digit all.0
count_begins (byte ∷ before) digits after blank all some = blank_begins byte blank.0

digits_stop : (digits after : List ℕ) → AllDigits 10 digits → digits ≢ [] → Stops is_blank (digits ++ after)
digits_stop [] after all some = absurd (some refl)
digits_stop (digit ∷ digits) after all some = digit_is_no_blank digit all.0

-- where a count begins no sign is found
no_sign_is : (text : List ℕ) → BeginsCount text → sign_in count_rules text ≡ None
no_sign_is [] begins = absurd begins
no_sign_is (byte ∷ bytes) begins =
    ap (λ (b : Bool). by b (byte == 62) (byte == 60) (byte == 37)) begins.equals
    ∙ ap (λ (b : Bool). by false b (byte == 60) (byte == 37)) begins.above
    ∙ ap (λ (b : Bool). by false false b (byte == 37)) begins.below
    ∙ ap (λ (b : Bool). by false false false b) begins.percent
  where
    by : Bool → Bool → Bool → Bool → Option (HitRule × List ℕ)
    by equals above below percent =
        sign_or counts.Equal (if equals then behind_sign (61 ∷ []) bytes else None)
        (sign_or counts.AtLeast (if above then behind_sign (61 ∷ []) bytes else None)
        (sign_or counts.Above (if above then Some bytes else None)
        (sign_or counts.AtMost (if below then behind_sign (61 ∷ []) bytes else None)
        (sign_or counts.Below (if below then Some bytes else None)
        (sign_or counts.Multiple (if percent then Some bytes else None) None)))))

-- and a rule before a count is found
rule_is : (rule : HitRule) (count : List ℕ) → BeginsCount count
    → sign_in count_rules (write rule ++ count) ≡ Some (rule, count)
rule_is counts.Equal count begins = refl
rule_is counts.AtLeast count begins = refl
rule_is counts.Above [] begins = absurd begins
rule_is counts.Above (byte ∷ bytes) begins = ap (λ (b : Bool). by b) begins.equals
  where
    by : Bool → Option (HitRule × List ℕ)
    by b = sign_or counts.AtLeast (if b then Some bytes else None) (Some (counts.Above, byte ∷ bytes))
rule_is counts.AtMost count begins = refl
rule_is counts.Below [] begins = absurd begins
rule_is counts.Below (byte ∷ bytes) begins = ap (λ (b : Bool). by b) begins.equals
  where
    by : Bool → Option (HitRule × List ℕ)
    by b = sign_or counts.AtMost (if b then Some bytes else None) (Some (counts.Below, byte ∷ bytes))
rule_is counts.Multiple count begins = refl

rule_stops : (rule : HitRule) (count : List ℕ) → Stops is_blank (write rule ++ count)
rule_stops counts.Equal count = refl
rule_stops counts.AtLeast count = refl
rule_stops counts.Above count = refl
rule_stops counts.AtMost count = refl
rule_stops counts.Below count = refl
rule_stops counts.Multiple count = refl

-- what is read of a short text
abbrev read : List ℕ → Option Hit
read text = hit_by (sign_in count_rules (behind is_blank text)) text

short_enough : (text : List ℕ) → length text ≤ 4096 → hit_of text ≡ read text
unfolding hit_of
short_enough text short = ap (λ (b : Bool). if b then read text else None) (le-leb (length text) 4096 short)

-- a count between blanks is read
count_is : (rule : HitRule) (n : ℕ) (before digits after : List ℕ) → AreBlanks before → AreBlanks after
    → IsDigits digits 10 n → 0 < n → n < 2 ^ 31
    → option_and_then (counted rule) (digits_in 10 (core_of (before ++ (digits ++ after)))) ≡ Some (of rule n)
count_is rule n before digits after blank blank_after is some small =
    ap (λ (l : List ℕ). option_and_then (counted rule) (digits_in 10 l))
    (core_is before digits after blank is.some (digits_are_solid digits is.digital) blank_after)
    ∙ ap (λ (found : Option ℕ). option_and_then (counted rule) found) (digits_are 10 n digits is)
    ∙ counted_is rule n some small

-- a count alone
alone_is : (text blanks digits after : List ℕ) (n : ℕ) → text ≡ blanks ++ (digits ++ after) → AreBlanks blanks
    → AreBlanks after → IsDigits digits 10 n → 0 < n → n < 2 ^ 31 → read text ≡ Some (of counts.Equal n)
alone_is text blanks digits after n parts blank blank_after is some small =
    let rest = digits ++ after in
    let cut = cut_is is_blank blanks rest blank (digits_stop digits after is.digital is.some) in
    ap (λ (l : List ℕ). read l) parts
    ∙ ap (λ (l : List ℕ). hit_by (sign_in count_rules l) (blanks ++ rest)) cut.1
    ∙ ap (λ (found : Option (HitRule × List ℕ)). hit_by found (blanks ++ rest))
    (no_sign_is rest (count_begins [] digits after tt is.digital is.some))
    ∙ count_is counts.Equal n blanks digits after blank blank_after is some small

-- a count behind its sign
signed_is : (text blanks between digits after : List ℕ) (rule : HitRule) (n : ℕ)
    → text ≡ blanks ++ (write rule ++ (between ++ (digits ++ after))) → AreBlanks blanks → AreBlanks between → AreBlanks after
    → IsDigits digits 10 n → 0 < n → n < 2 ^ 31 → read text ≡ Some (of rule n)
signed_is text blanks between digits after rule n parts blank blank_between blank_after is some small =
    let count = between ++ (digits ++ after) in
    let cut = cut_is is_blank blanks (write rule ++ count) blank (rule_stops rule count) in
    ap (λ (l : List ℕ). read l) parts
    ∙ ap (λ (l : List ℕ). hit_by (sign_in count_rules l) (blanks ++ (write rule ++ count))) cut.1
    ∙ ap (λ (found : Option (HitRule × List ℕ)). hit_by found (blanks ++ (write rule ++ count)))
    (rule_is rule count (count_begins between digits after blank_between is.digital is.some))
    ∙ count_is rule n between digits after blank_between blank_after is some small

-- the parts of a hit condition, one behind the other
joined : (text first second b1 sign a1 b2 digits a2 : List ℕ) → text ≡ first ++ second → first ≡ b1 ++ (sign ++ a1)
    → second ≡ b2 ++ (digits ++ a2) → text ≡ b1 ++ (sign ++ ((a1 ++ b2) ++ (digits ++ a2)))
joined text first second b1 sign a1 b2 digits a2 parts one two =
    parts ∙ ap (λ (l : List ℕ). l ++ second) one ∙ append_assoc b1 (sign ++ a1) second
    ∙ ap (λ (l : List ℕ). b1 ++ l) (append_assoc sign a1 second)
    ∙ ap (λ (l : List ℕ). b1 ++ (sign ++ (a1 ++ l))) two
    ∙ ap (λ (l : List ℕ). b1 ++ (sign ++ l)) (sym (append_assoc a1 b2 (digits ++ a2)))

by_sign : (text b1 a1 b2 digits a2 sign : List ℕ) (rule : HitRule) (n : ℕ) → IsSign sign rule
    → text ≡ b1 ++ (sign ++ ((a1 ++ b2) ++ (digits ++ a2))) → AreBlanks b1 → AreBlanks a1 → AreBlanks b2 → AreBlanks a2
    → IsDigits digits 10 n → 0 < n → n < 2 ^ 31 → read text ≡ Some (of rule n)
by_sign text b1 a1 b2 digits a2 sign rule n IsSign.left_out parts one two three four is some small =
    alone_is text (b1 ++ (a1 ++ b2)) digits a2 n (parts ∙ sym (append_assoc b1 (a1 ++ b2) (digits ++ a2)))
    (all_joined is_blank b1 (a1 ++ b2) one (all_joined is_blank a1 b2 two three)) four is some small
by_sign text b1 a1 b2 digits a2 sign rule n IsSign.equal parts one two three four is some small =
    signed_is text b1 (a1 ++ b2) digits a2 counts.Equal n parts one (all_joined is_blank a1 b2 two three) four is some small
by_sign text b1 a1 b2 digits a2 sign rule n IsSign.at_least parts one two three four is some small =
    signed_is text b1 (a1 ++ b2) digits a2 counts.AtLeast n parts one (all_joined is_blank a1 b2 two three) four is some
    small
by_sign text b1 a1 b2 digits a2 sign rule n IsSign.above parts one two three four is some small =
    signed_is text b1 (a1 ++ b2) digits a2 counts.Above n parts one (all_joined is_blank a1 b2 two three) four is some small
by_sign text b1 a1 b2 digits a2 sign rule n IsSign.at_most parts one two three four is some small =
    signed_is text b1 (a1 ++ b2) digits a2 counts.AtMost n parts one (all_joined is_blank a1 b2 two three) four is some
    small
by_sign text b1 a1 b2 digits a2 sign rule n IsSign.less parts one two three four is some small =
    signed_is text b1 (a1 ++ b2) digits a2 counts.Below n parts one (all_joined is_blank a1 b2 two three) four is some small
by_sign text b1 a1 b2 digits a2 sign rule n IsSign.multiple parts one two three four is some small =
    signed_is text b1 (a1 ++ b2) digits a2 counts.Multiple n parts one (all_joined is_blank a1 b2 two three) four is some
    small

hit_is : (text : List ℕ) (hit : Hit) → IsHit text hit → hit_of text ≡ Some hit
hit_is text hit is =
    let sign = is.at_sign in
    let count = is.at_digits in
    short_enough text is.short
    ∙ by_sign text sign.before sign.behind count.before is.digits count.behind is.sign hit.rule hit.count is.is_sign
    (joined text is.first is.second sign.before is.sign sign.behind count.before is.digits count.behind is.parts
    (between_parts is.first is.sign sign) (between_parts is.second is.digits count))
    sign.blank_before sign.blank_behind count.blank_before count.blank_behind is.is_count is.some is.small

-- From what is read to the grammar ------------------------------------------------------------------------------------

hit_at : (text first second sign : List ℕ) (rule : HitRule) (hit : Hit) → length text ≤ 4096 → text ≡ first ++ second
    → IsBetween first sign → IsSign sign rule
    → option_and_then (counted rule) (digits_in 10 (core_of second)) ≡ Some hit → IsHit text hit
hit_at text first second sign rule hit short parts between is found =
    option_and_then_some (counted rule) (digits_in 10 (core_of second)) hit found (λ n digits counts.
    let count = is_counted rule n hit counts in
    subst (IsHit text) count.2 (record {
      short = short;
      first = first;
      second = second;
      sign = sign;
      digits = core_of second;
      parts = parts;
      at_sign = between;
      at_digits = between_is second;
      is_sign = is;
      is_count = are_digits 10 n (core_of second) digits;
      some = count.0;
      small = count.1;
    }))

hit_from : (text : List ℕ) (hit : Hit) → hit_of text ≡ Some hit → IsHit text hit
unfolding hit_of
hit_from text hit found = by (nat_le (length text) 4096) refl found
  where
    blanks : List ℕ
    blanks = take (prefix_len is_blank text) text

    sign_by : (sign : Option (HitRule × List ℕ)) → length text ≤ 4096
        → sign_in count_rules (behind is_blank text) ≡ sign → hit_by sign text ≡ Some hit → IsHit text hit
    sign_by None short e some =
        hit_at text [] text [] counts.Equal hit short refl
        (record { before = []; behind = []; parts = refl; blank_before = tt; blank_behind = tt }) IsSign.left_out some
    sign_by (Some sign) short e some =
        let at = sign_from write count_rules written (behind is_blank text) sign e in
        hit_at text (blanks ++ write sign.0) sign.1 (write sign.0) sign.0 hit short
        (cut_joined is_blank text ∙ ap (λ (l : List ℕ). blanks ++ l) at ∙ sym (append_assoc blanks (write sign.0) sign.1))
        (record {
          before = blanks;
          behind = [];
          parts = sym (append-nil (blanks ++ write sign.0));
          blank_before = passes is_blank text;
          blank_behind = tt;
        }) (written_is_sign sign.0) some

    by : (b : Bool) → nat_le (length text) 4096 ≡ b → (if b then read text else None) ≡ Some hit → IsHit text hit
    by false e none = absurd cc
    by true e some =
        sign_by (sign_in count_rules (behind is_blank text)) (leb-true (length text) 4096 e) refl some

pub reads_hits : ReadsHits
reads_hits = (hit_is, hit_from)

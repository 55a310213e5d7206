-- The compact text of a value is one line, and is read as the value.
use Rattle.std.proofs.Common.{◌≡◌, ◌≢◌, ℕ, zero, suc, ◌<◌, ◌≤◌, ◌^◌, pos, negsuc, max, List, [], ◌∷◌, ◌++◌, Bool}
use Rattle.std.proofs.Common.{true, false}
use Rattle.std.proofs.Common.{◌&&◌, Some, option_and_then, option_map, decimal, refl, sym, ap, ap₂, ◌∙◌, subst, arith}
use Rattle.std.proofs.Common.{append-nil, inl, inr}
use Rattle.std.specs.Prelude.{nat_le, nat_lt}
use Rattle.std.specs.Char.{digit_value}
use Rattle.std.specs.Cmp.Lexicographic.{slice_cmp}
use Rattle.std.specs.List.{list_all, AllByRecursion}
use Rattle.std.specs.Ordering.{nat_cmp, ordering_reverse}
use Rattle.std.specs.declared.cmp.Ordering.TheVariants.{Greater}
use Rattle.std.specs.Str.{IsUtf8, IsAscii}
use Rattle.std.specs.Str.Parse.{AllDigits}
use Rattle.std.proofs.lemmas.Bool.{and_parts, or_parts, cases_lt, ltb-true, leb-true}
use Rattle.std.proofs.lemmas.Cmp.{nat_list_cmp_total}
use Rattle.std.proofs.lemmas.Fmt.{decimal_is_IsNumeral}
use Rattle.std.proofs.lemmas.Str.{IsUtf8-append, IsUtf8-from_ascii, is_utf8-from_IsUtf8}
use Rattle.std.proofs.lemmas.Str.Ascii.{IsAscii-nil, IsAscii-cons}
use Rattle.json.specs.Json as json
use Rattle.json.specs.Lex.{tokens}
use Rattle.json.specs.Print.{escape, escape_byte, quoted}
use Rattle.json.specs.Tree as tree
use Rattle.json.proofs.Printed.Decimals.{IsNumber-decimal, IsNumber-signed_decimal}
use Rattle.json.proofs.Printed.Strings.{escape_byte_plain}
use Rattle.json.proofs.Printed.Tokens.{tokens-print}
use Rattle.json.proofs.Printed.Trees.{value-json_tokens, ArePrintable-json_tokens}
use Rattle.json.proofs.Printed.Utf8.{IsUtf8-quoted}
use Rattle.serde_json.specs.Data.{Num, unsigned, negative, float, Data, null, boolean, number, string, array, object}
use Rattle.serde_json.specs.Data.{depth}
use Rattle.serde_json.specs.Data.{Items, no_items, item, items_depth, Members, no_members, member, members_depth, put}
use Rattle.serde_json.specs.Find.{is_float}
use Rattle.serde_json.specs.Read.{number_of, of_json, of_items, of_members, max_depth, read}
use Rattle.serde_json.specs.Written.{number_text, outline, items_outline, members_outline, has_float, items_have_float}
use Rattle.serde_json.specs.Written.{members_have_float, comma_if, compact_text, items_text, members_text}
use Rattle.serde_json.proofs.Numbers.{number_of-decimal, number_of-negative}
use Rattle.serde_json.proofs.Texts.{print-outline}
use Rattle.json_lines.specs.Lines.{IsLine}
use Rattle.json_lines.specs.Spelled.{IsNumber, IsBelow, IsSpelled, AreSpelled, AreMembers}

-- ---- one line

abbrev NoFeed : List ℕ → Type 0
NoFeed bytes = AllByRecursion (λ byte. byte ≢ 10) bytes

no_feed-append : (xs ys : List ℕ) → NoFeed xs → NoFeed ys → NoFeed (xs ++ ys)
no_feed-append [] ys h k = k
no_feed-append (x ∷ xs) ys h k = (h.0, no_feed-append xs ys h.1 k)

record IsClean (text : List ℕ) : Type 0 where
  utf8 : IsUtf8 text
  no_feed : NoFeed text

clean-append : (xs ys : List ℕ) → IsClean xs → IsClean ys → IsClean (xs ++ ys)
clean-append xs ys h k =
    record { utf8 = IsUtf8-append xs ys h.utf8 k.utf8; no_feed = no_feed-append xs ys h.no_feed k.no_feed }

-- no control character, and ASCII
abbrev is_shown : ℕ → Bool
is_shown byte = nat_le 32 byte && nat_lt byte 128

shown_ascii : (xs : List ℕ) → list_all is_shown xs ≡ true → IsAscii xs
shown_ascii [] e = IsAscii-nil
shown_ascii (x ∷ xs) e =
    let parts = and_parts (is_shown x) (list_all is_shown xs) e in
    let small = and_parts (nat_le 32 x) (nat_lt x 128) parts.0 in
    IsAscii-cons x xs (ltb-true x 128 small.1) (shown_ascii xs parts.1)

shown_no_feed : (xs : List ℕ) → list_all is_shown xs ≡ true → NoFeed xs
shown_no_feed [] e = tt
shown_no_feed (x ∷ xs) e =
    let parts = and_parts (is_shown x) (list_all is_shown xs) e in
    let low = leb-true 32 x (and_parts (nat_le 32 x) (nat_lt x 128) parts.0).0 in
    (λ feed. absurd (omega (arith, low, feed)), shown_no_feed xs parts.1)

clean_shown : (xs : List ℕ) → list_all is_shown xs ≡ true → IsClean xs
clean_shown xs e = record { utf8 = IsUtf8-from_ascii xs (shown_ascii xs e); no_feed = shown_no_feed xs e }

both : (a b : Bool) → a ≡ true → b ≡ true → (a && b) ≡ true
both a b e f = rw (e, f) refl

digit_shown : (digit : ℕ) → digit_value digit < 10 → is_shown digit ≡ true
digit_shown digit small = grind arith

digits_shown : (digits : List ℕ) → AllDigits 10 digits → list_all is_shown digits ≡ true
digits_shown [] are = refl
digits_shown (digit ∷ digits) are =
    both (is_shown digit) (list_all is_shown digits) (digit_shown digit are.0) (digits_shown digits are.1)

decimal_shown : (n : ℕ) → n < 2 ^ 64 → list_all is_shown (decimal n) ≡ true
decimal_shown n fits = digits_shown (decimal n) (decimal_is_IsNumeral n fits).0.1

number_shown : (n : Num) → IsNumber n → is_float n ≡ false → list_all is_shown (number_text n) ≡ true
number_shown (unsigned n) fits plain = decimal_shown n fits
number_shown (negative (pos n)) fits plain = absurd fits
number_shown (negative (negsuc n)) fits plain = decimal_shown (suc n) (omega (arith, fits))
number_shown (float x) fits plain = absurd cc

-- ---- texts

all_below : (ℕ → Bool) → ℕ → Bool
all_below test zero = true
all_below test (suc n) = test n && all_below test n

all_below-at : (test : ℕ → Bool) (n k : ℕ) → all_below test n ≡ true → k < n → test k ≡ true
unfolding all_below
all_below-at test zero k e lt = absurd (omega arith)
all_below-at test (suc n) k e lt =
    let parts = and_parts (test n) (all_below test n) e in
    elim (cases_lt k n) [
      | inl below ↦ all_below-at test n k parts.1 below
      | inr top ↦
          let here : k ≡ n = omega arith in
          rw here parts.0
    ]

-- a byte of ASCII
is_shown_escaped : ℕ → Bool
is_shown_escaped x = list_all is_shown (escape_byte x)

escape_shown : (x : ℕ) → x < 128 → list_all is_shown (escape_byte x) ≡ true
unfolding is_shown_escaped all_below escape_byte
escape_shown x small = all_below-at is_shown_escaped 128 x refl small

escape_no_feed : (x : ℕ) → NoFeed (escape_byte x)
escape_no_feed x = elim (cases_lt x 128) [
  | inl small ↦ shown_no_feed (escape_byte x) (escape_shown x small)
  | inr high ↦
      subst NoFeed (sym (escape_byte_plain x (λ e. omega arith) (λ e. omega arith) (omega arith)))
      (λ feed. omega arith, tt)
]

escapes_no_feed : (s : List ℕ) → NoFeed (escape s)
escapes_no_feed [] = tt
escapes_no_feed (x ∷ s) = no_feed-append (escape_byte x) (escape s) (escape_no_feed x) (escapes_no_feed s)

clean_quoted : (s : List ℕ) → IsUtf8 s → IsClean (quoted s)
clean_quoted s utf8 = record {
  utf8 = IsUtf8-quoted s utf8;
  no_feed = (λ feed. omega arith, no_feed-append (escape s) (34 ∷ []) (escapes_no_feed s) (λ feed. omega arith, tt));
}

-- ---- values

clean_comma : (later : Bool) → IsClean (comma_if later)
clean_comma true = clean_shown (44 ∷ []) refl
clean_comma false = clean_shown [] refl

mutual
  clean_data : (d : Data) → IsSpelled d → has_float d ≡ false → IsClean (compact_text d)
  clean_data null spelled plain = clean_shown _ refl
  clean_data (boolean true) spelled plain = clean_shown _ refl
  clean_data (boolean false) spelled plain = clean_shown _ refl
  clean_data (number n) spelled plain = clean_shown (number_text n) (number_shown n spelled plain)
  clean_data (string s) spelled plain = clean_quoted s spelled
  clean_data (array ds) spelled plain =
      clean-append (91 ∷ []) (items_text false ds) (clean_shown (91 ∷ []) refl) (clean_items false ds spelled plain)
  clean_data (object ms) spelled plain =
      clean-append (123 ∷ []) (members_text false ms) (clean_shown (123 ∷ []) refl)
      (clean_members false ms spelled plain)

  clean_items : (later : Bool) (ds : Items) → AreSpelled ds → items_have_float ds ≡ false →
      IsClean (items_text later ds)
  clean_items later no_items spelled plain = clean_shown (93 ∷ []) refl
  clean_items later (item d ds) spelled plain =
      let p = or_parts (has_float d) (items_have_float ds) plain in
      clean-append (comma_if later) (compact_text d ++ items_text true ds) (clean_comma later)
      (clean-append (compact_text d) (items_text true ds) (clean_data d spelled.0 p.0)
      (clean_items true ds spelled.1 p.1))

  clean_members : (later : Bool) (ms : Members) → AreMembers ms → members_have_float ms ≡ false →
      IsClean (members_text later ms)
  clean_members later no_members spelled plain = clean_shown (125 ∷ []) refl
  clean_members later (member k d ms) spelled plain =
      let p = or_parts (has_float d) (members_have_float ms) plain in
      clean-append (comma_if later) (quoted k ++ 58 ∷ (compact_text d ++ members_text true ms)) (clean_comma later)
      (clean-append (quoted k) (58 ∷ (compact_text d ++ members_text true ms)) (clean_quoted k spelled.0)
      (clean-append (58 ∷ []) (compact_text d ++ members_text true ms) (clean_shown (58 ∷ []) refl)
      (clean-append (compact_text d) (members_text true ms) (clean_data d spelled.1.0 p.0)
      (clean_members true ms spelled.1.1.1 p.1))))

-- ---- read again

number_again : (n : Num) → IsNumber n → is_float n ≡ false → number_of (number_text n) ≡ Some n
number_again (unsigned n) fits plain = number_of-decimal n fits
number_again (negative (pos n)) fits plain = absurd fits
number_again (negative (negsuc n)) fits plain = number_of-negative n fits
number_again (float x) fits plain = absurd cc

number_written : (n : Num) → IsNumber n → is_float n ≡ false → tree.HasNumbers (json.number (number_text n))
number_written (unsigned n) fits plain = IsNumber-decimal n fits
number_written (negative (pos n)) fits plain = absurd fits
number_written (negative (negsuc n)) fits plain = IsNumber-signed_decimal (negsuc n) fits
number_written (float x) fits plain = absurd cc

-- members behind others
abbrev joined : Members → Members → Members
joined no_members ms = ms
joined (member k d found) ms = member k d (joined found ms)

abbrev AreBelow : Members → Members → Type 0
AreBelow no_members ms = Unit {0}
AreBelow (member k d found) ms = IsBelow k ms × AreBelow found ms

joined-none : (found : Members) → found ≡ joined found no_members
joined-none no_members = refl
joined-none (member k d found) = ap (member k d) (joined-none found)

joined-more : (found : Members) (k : List ℕ) (d : Data) (ms : Members) →
    joined (joined found (member k d no_members)) ms ≡ joined found (member k d ms)
joined-more no_members k d ms = refl
joined-more (member l e found) k d ms = ap (member l e) (joined-more found k d ms)

below-more : (found : Members) (k : List ℕ) (d : Data) (ms : Members) → AreBelow found (member k d ms) → IsBelow k ms →
    AreBelow (joined found (member k d no_members)) ms
below-more no_members k d ms below first = (first, tt)
below-more (member l e found) k d ms below first = (below.0.1, below-more found k d ms below.1 first)

-- a name that comes behind all others is put last
put_last : (found : Members) (k : List ℕ) (d : Data) (ms : Members) → AreBelow found (member k d ms) →
    put k d found ≡ joined found (member k d no_members)
put_last no_members k d ms below = refl
put_last (member l e found) k d ms below =
    let above : slice_cmp nat_cmp k l ≡ Greater = nat_list_cmp_total.antisymm k l ∙ ap ordering_reverse below.0.0 in
    rw above (ap (member l e) (put_last found k d ms below.1))

mutual
  data_again : (d : Data) → IsSpelled d → has_float d ≡ false → of_json (outline d) ≡ Some d
  data_again null spelled plain = refl
  data_again (boolean b) spelled plain = refl
  data_again (number n) spelled plain = ap (option_map number) (number_again n spelled plain)
  data_again (string s) spelled plain = refl
  data_again (array ds) spelled plain = ap (option_map array) (items_again ds spelled plain)
  data_again (object ms) spelled plain = ap (option_map object) (members_again ms no_members spelled tt plain)

  items_again : (ds : Items) → AreSpelled ds → items_have_float ds ≡ false → of_items (items_outline ds) ≡ Some ds
  items_again no_items spelled plain = refl
  items_again (item d ds) spelled plain =
      let p = or_parts (has_float d) (items_have_float ds) plain in
      ap (option_and_then (λ x. option_map (item x) (of_items (items_outline ds)))) (data_again d spelled.0 p.0)
      ∙ ap (option_map (item d)) (items_again ds spelled.1 p.1)

  members_again : (ms found : Members) → AreMembers ms → AreBelow found ms → members_have_float ms ≡ false →
      of_members (members_outline ms) found ≡ Some (joined found ms)
  members_again no_members found spelled below plain = ap Some (joined-none found)
  members_again (member k d ms) found spelled below plain =
      let p = or_parts (has_float d) (members_have_float ms) plain in
      ap (option_and_then (λ x. of_members (members_outline ms) (put k x found))) (data_again d spelled.1.0 p.0)
      ∙ ap (of_members (members_outline ms)) (put_last found k d ms below)
      ∙ members_again ms (joined found (member k d no_members)) spelled.1.1.1
      (below-more found k d ms below spelled.1.1.0) p.1
      ∙ ap Some (joined-more found k d ms)

mutual
  data_written : (d : Data) → IsSpelled d → has_float d ≡ false → tree.HasNumbers (outline d)
  data_written null spelled plain = tt
  data_written (boolean b) spelled plain = tt
  data_written (number n) spelled plain = number_written n spelled plain
  data_written (string s) spelled plain = tt
  data_written (array ds) spelled plain = items_written ds spelled plain
  data_written (object ms) spelled plain = members_written ms spelled plain

  items_written : (ds : Items) → AreSpelled ds → items_have_float ds ≡ false → tree.ItemsHaveNumbers (items_outline ds)
  items_written no_items spelled plain = tt
  items_written (item d ds) spelled plain =
      let p = or_parts (has_float d) (items_have_float ds) plain in
      (data_written d spelled.0 p.0, items_written ds spelled.1 p.1)

  members_written : (ms : Members) → AreMembers ms → members_have_float ms ≡ false →
      tree.MembersHaveNumbers (members_outline ms)
  members_written no_members spelled plain = tt
  members_written (member k d ms) spelled plain =
      let p = or_parts (has_float d) (members_have_float ms) plain in
      (data_written d spelled.1.0 p.0, members_written ms spelled.1.1.1 p.1)

mutual
  outline_depth : (d : Data) → tree.depth (outline d) ≡ depth d
  outline_depth null = refl
  outline_depth (boolean b) = refl
  outline_depth (number n) = refl
  outline_depth (string s) = refl
  outline_depth (array ds) = ap suc (items_outline_depth ds)
  outline_depth (object ms) = ap suc (members_outline_depth ms)

  items_outline_depth : (ds : Items) → tree.items_depth (items_outline ds) ≡ items_depth ds
  items_outline_depth no_items = refl
  items_outline_depth (item d ds) = ap₂ max (outline_depth d) (items_outline_depth ds)

  members_outline_depth : (ms : Members) → tree.members_depth (members_outline ms) ≡ members_depth ms
  members_outline_depth no_members = refl
  members_outline_depth (member k d ms) = ap₂ max (outline_depth d) (members_outline_depth ms)

read_again : (d : Data) → IsSpelled d → depth d ≤ max_depth → has_float d ≡ false → read (compact_text d) ≡ Some d
read_again d spelled shallow plain =
    let tree_tokens = tree.json_tokens (outline d) in
    let text : tokens (compact_text d) ≡ tree_tokens ++ [] =
    ap tokens (sym (print-outline d))
    ∙ tokens-print tree_tokens (ArePrintable-json_tokens (outline d) (data_written d spelled plain))
    ∙ sym (append-nil tree_tokens) in
    ap (λ ts. option_and_then of_json (option_and_then (λ p. json.if_last p.0 p.1) (json.value max_depth ts))) text
    ∙ ap (λ r. option_and_then of_json (option_and_then (λ p. json.if_last p.0 p.1) r))
    (value-json_tokens (outline d) max_depth []
    (subst (λ (n : ℕ). n ≤ max_depth) (sym (outline_depth d)) shallow))
    ∙ data_again d spelled plain

pub is_line : (d : Data) → IsSpelled d → depth d ≤ max_depth → has_float d ≡ false → IsLine d
is_line d spelled shallow plain =
    let clean = clean_data d spelled plain in
    record {
      utf8 = is_utf8-from_IsUtf8 (compact_text d) clean.utf8;
      no_feed = clean.no_feed;
      is_read = read_again d spelled shallow plain;
    }

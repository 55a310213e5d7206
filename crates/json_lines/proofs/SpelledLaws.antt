-- What is read of a text in UTF-8 can be spelled: of each part of it what the reader makes.
use Rattle.std.proofs.Common.{◌≡◌, ℕ, zero, suc, ◌<◌, ◌≤◌, ◌^◌, Bool, true, false, cond, ◌&&◌, ◌==◌, nat_lt, nat_le}
use Rattle.std.proofs.Common.{List, drop, Option, Some, None, option_map, option_and_then, refl, ap, ◌∙◌, subst, arith}
use Rattle.std.specs.Prelude.{slice_index}
use Rattle.std.specs.Cmp.Lexicographic.{slice_cmp}
use Rattle.std.specs.Float.{binary64, float_is_finite}
use Rattle.std.specs.Ordering.{nat_cmp, match_ordering, ordering_reverse}
use Rattle.std.specs.declared.cmp.Ordering.{Ordering}
use Rattle.std.specs.declared.cmp.Ordering.TheVariants.{Less, Equal, Greater}
use Rattle.std.specs.Str.{IsUtf8}
use Rattle.std.proofs.lemmas.Bool.{and_parts, ltb-true, leb-true}
use Rattle.std.proofs.lemmas.Cmp.{nat_list_cmp_total}
use Rattle.fast_float.specs.Text.{Parts, scan, digits_of, nearest, with_sign}
use Rattle.json.specs.Json as json
use Rattle.json.specs.Lex.{tokens}
use Rattle.serde_json.specs.Data.{Num, negative, Data, number, array, object, item}
use Rattle.serde_json.specs.Data.{Members, no_members, member, put}
use Rattle.serde_json.specs.Read.{is_integer, float_of, number_from, number_of, of_json, of_items, of_members}
use Rattle.serde_json.specs.Read.{max_depth, read}
use Rattle.json_lines.specs.Spelled.{IsNumber, IsBelow, IsSpelled, AreSpelled, AreMembers}
use Rattle.json_lines.proofs.TokenLaws.{HasTexts, ItemsHaveTexts, MembersHaveTexts, tree_has_texts}

-- ---- numbers

abbrev IfNumber : Option Num → Type 0
IfNumber None = Unit {0}
IfNumber (Some n) = IsNumber n

either : (b : Bool) (x y : Option Num) → (b ≡ true → IfNumber x) → IfNumber y → IfNumber (cond b x y)
either true x y p q = p refl
either false x y p q = q

float_spelled : (sign : Bool) (p : Parts) → IfNumber (float_of sign p)
float_spelled sign p = either (float_is_finite (nearest binary64 sign p)) _ None (λ finite. tt) tt

below_zero : (n : ℕ) → 0 < n → n ≤ 2 ^ 63 → IsNumber (negative (with_sign true n))
below_zero zero some fits = absurd (omega arith)
below_zero (suc n) some fits = omega arith

number_from_spelled : (sign : Bool) (p : Parts) → IfNumber (number_from sign p)
number_from_spelled false p =
    either (is_integer p && nat_lt (digits_of p) (2 ^ 64)) _ (float_of false p)
    (λ e. ltb-true (digits_of p) (2 ^ 64) (and_parts (is_integer p) (nat_lt (digits_of p) (2 ^ 64)) e).1)
    (float_spelled false p)
number_from_spelled true p =
    either (is_integer p && nat_lt 0 (digits_of p) && nat_le (digits_of p) (2 ^ 63)) _ (float_of true p)
    (λ e.
    let q = three (is_integer p) (nat_lt 0 (digits_of p)) (nat_le (digits_of p) (2 ^ 63)) e in
    below_zero (digits_of p) (ltb-true 0 (digits_of p) q.0) (leb-true (digits_of p) (2 ^ 63) q.1))
    (float_spelled true p)
  where
    three : (a b c : Bool) → (a && b && c) ≡ true → (b ≡ true) × (c ≡ true)
    three true true true e = (refl, refl)
    three true true false e = absurd cc
    three true false c e = absurd cc
    three false b c e = absurd cc

number_spelled : (s : List ℕ) → IfNumber (number_of s)
unfolding number_of
number_spelled s =
    either (slice_index s 0 == 45) _ _ (λ minus. number_from_spelled true (scan (drop 1 s)))
    (number_from_spelled false (scan s))

-- ---- members

below_put : (o : Ordering) (l k : List ℕ) (d e : Data) (n : List ℕ) (ms more : Members) →
    slice_cmp nat_cmp l k ≡ Less → slice_cmp nat_cmp l n ≡ Less → IsBelow l ms → IsBelow l more →
    IsBelow l (match_ordering o (member k d (member n e ms)) (member n d ms) (member n e more))
below_put Less l k d e n ms more first next rest later = (first, (next, rest))
below_put Equal l k d e n ms more first next rest later = (next, rest)
below_put Greater l k d e n ms more first next rest later = (next, later)

put_below : (l k : List ℕ) (d : Data) (ms : Members) → slice_cmp nat_cmp l k ≡ Less → IsBelow l ms →
    IsBelow l (put k d ms)
put_below l k d no_members first below = (first, tt)
put_below l k d (member n e ms) first below =
    below_put (slice_cmp nat_cmp k n) l k d e n ms (put k d ms) first below.0 below.1 (put_below l k d ms first below.1)

-- what a name is below is below what comes behind that
below_all : (k l : List ℕ) (ms : Members) → slice_cmp nat_cmp k l ≡ Less → IsBelow l ms → IsBelow k ms
below_all k l no_members first below = tt
below_all k l (member n e ms) first below =
    (nat_list_cmp_total.trans k l n first below.0, below_all k l ms first below.1)

at_place : (o : Ordering) (k l : List ℕ) (d e : Data) (ms more : Members) → slice_cmp nat_cmp k l ≡ o →
    IsUtf8 k → IsSpelled d → AreMembers (member l e ms) → AreMembers more →
    (slice_cmp nat_cmp l k ≡ Less → IsBelow l more) →
    AreMembers (match_ordering o (member k d (member l e ms)) (member l d ms) (member l e more))
at_place Less k l d e ms more is utf8 spelled members later above =
    (utf8, (spelled, ((is, below_all k l ms is members.1.1.0), members)))
at_place Equal k l d e ms more is utf8 spelled members later above =
    (members.0, (spelled, members.1.1))
at_place Greater k l d e ms more is utf8 spelled members later above =
    (members.0, (members.1.0, (above (nat_list_cmp_total.antisymm l k ∙ ap ordering_reverse is), later)))

put_spelled : (k : List ℕ) (d : Data) (ms : Members) → IsUtf8 k → IsSpelled d → AreMembers ms → AreMembers (put k d ms)
put_spelled k d no_members utf8 spelled members = (utf8, (spelled, (tt, tt)))
put_spelled k d (member l e ms) utf8 spelled members =
    at_place (slice_cmp nat_cmp k l) k l d e ms (put k d ms) refl utf8 spelled members
    (put_spelled k d ms utf8 spelled members.1.1.1)
    (λ less. put_below l k d ms less members.1.1.0)

-- ---- values

abbrev IfSpelled : {A : Type 0} → (A → Type 0) → Option A → Type 0
IfSpelled P None = Unit {0}
IfSpelled P (Some a) = P a

mapped : {A B : Type 0} (P : A → Type 0) (Q : B → Type 0) (f : A → B) → ((a : A) → P a → Q (f a)) → (o : Option A) →
    IfSpelled P o → IfSpelled Q (option_map f o)
mapped P Q f g None h = tt
mapped P Q f g (Some a) h = g a h

and_then : {A B : Type 0} (P : A → Type 0) (Q : B → Type 0) (f : A → Option B) → ((a : A) → P a → IfSpelled Q (f a)) →
    (o : Option A) → IfSpelled P o → IfSpelled Q (option_and_then f o)
and_then P Q f g None h = tt
and_then P Q f g (Some a) h = g a h

number_read : (o : Option Num) → IfNumber o → IfSpelled IsSpelled (option_map number o)
number_read None h = tt
number_read (Some n) h = h

mutual
  tree_spelled : (j : json.Json) → HasTexts j → IfSpelled IsSpelled (of_json j)
  tree_spelled json.null h = tt
  tree_spelled (json.boolean b) h = tt
  tree_spelled (json.number s) h = number_read (number_of s) (number_spelled s)
  tree_spelled (json.string s) h = h
  tree_spelled (json.array js) h = mapped AreSpelled IsSpelled array (λ ds x. x) (of_items js) (items_spelled js h)
  tree_spelled (json.object ms) h =
      mapped AreMembers IsSpelled object (λ ns x. x) (of_members ms no_members) (members_spelled ms no_members h tt)

  items_spelled : (js : json.Items) → ItemsHaveTexts js → IfSpelled AreSpelled (of_items js)
  items_spelled json.no_items h = tt
  items_spelled (json.item j js) h =
      and_then IsSpelled AreSpelled (λ d. option_map (item d) (of_items js))
      (λ d x. mapped AreSpelled AreSpelled (item d) (λ ds y. (x, y)) (of_items js) (items_spelled js h.1)) (of_json j)
      (tree_spelled j h.0)

  members_spelled : (ms : json.Members) (found : Members) → MembersHaveTexts ms → AreMembers found →
      IfSpelled AreMembers (of_members ms found)
  members_spelled json.no_members found h are = are
  members_spelled (json.member k j ms) found h are =
      and_then IsSpelled AreMembers (λ d. of_members ms (put k d found))
      (λ d x. members_spelled ms (put k d found) h.1.1 (put_spelled k d found h.0 x are)) (of_json j)
      (tree_spelled j h.1.0)

whole_spelled : (o : Option json.Json) → ((j : json.Json) → o ≡ Some j → HasTexts j) →
    IfSpelled IsSpelled (option_and_then of_json o)
whole_spelled None h = tt
whole_spelled (Some j) h = tree_spelled j (h j refl)

pub read_spelled : (text : List ℕ) (d : Data) → IsUtf8 text → read text ≡ Some d → IsSpelled d
read_spelled text d utf8 e =
    subst (IfSpelled IsSpelled) e
    (whole_spelled (option_and_then (λ p. json.if_last p.0 p.1) (json.value max_depth (tokens text)))
    (λ j is. tree_has_texts text max_depth j utf8 is))

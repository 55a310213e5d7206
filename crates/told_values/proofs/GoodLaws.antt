-- Values that can be spelled and are not too deep, both at once, and objects whose names are known.
use Rattle.std.proofs.Common.{◌≡◌, ℕ, zero, suc, ◌≤◌, List, [], ◌∷◌, Bool, true, false, ◌&&◌, refl, arith, max}
use Rattle.std.specs.Prelude.{nat_lt}
use Rattle.std.specs.Cmp.Lexicographic.{slice_cmp}
use Rattle.std.specs.List.{list_all}
use Rattle.std.specs.Ordering.{nat_cmp}
use Rattle.std.specs.declared.cmp.Ordering.{Ordering}
use Rattle.std.specs.declared.cmp.Ordering.TheVariants.{Less, Equal, Greater}
use Rattle.std.specs.Str.{IsUtf8, IsAscii}
use Rattle.std.proofs.lemmas.Bool.{and_parts, ltb-true}
use Rattle.std.proofs.lemmas.Str.{IsUtf8-from_ascii}
use Rattle.std.proofs.lemmas.Str.Ascii.{IsAscii-nil, IsAscii-cons}
use Rattle.serde_json.specs.Data.{Data, null, boolean, number, string, array, object, depth, items_depth, members_depth}
use Rattle.serde_json.specs.Data.{Items, no_items, item, Members, no_members, member}
use Rattle.json_lines.specs.Spelled.{IsNumber, IsBelow, IsSpelled, AreSpelled, AreMembers}

-- ---- what is in ASCII

abbrev pub is_ascii : List ℕ → Bool
is_ascii text = list_all (λ byte. nat_lt byte 128) text

ascii : (text : List ℕ) → is_ascii text ≡ true → IsAscii text
ascii [] e = IsAscii-nil
ascii (byte ∷ text) e =
    let parts = and_parts (nat_lt byte 128) (is_ascii text) e in
    IsAscii-cons byte text (ltb-true byte 128 parts.0) (ascii text parts.1)

pub utf8_ascii : (text : List ℕ) → is_ascii text ≡ true → IsUtf8 text
utf8_ascii text e = IsUtf8-from_ascii text (ascii text e)

-- ---- names that ascend

abbrev is_less : Ordering → Bool
is_less Less = true
is_less Equal = false
is_less Greater = false

abbrev is_below : List ℕ → Members → Bool
is_below name no_members = true
is_below name (member k d ms) = is_less (slice_cmp nat_cmp name k) && is_below name ms

-- the names are in ASCII, and ascend
abbrev pub ascend : Members → Bool
ascend no_members = true
ascend (member k d ms) = is_ascii k && (is_below k ms && ascend ms)

less : (o : Ordering) → is_less o ≡ true → o ≡ Less
less Less e = refl
less Equal e = absurd cc
less Greater e = absurd cc

below : (name : List ℕ) (ms : Members) → is_below name ms ≡ true → IsBelow name ms
below name no_members e = tt
below name (member k d ms) e =
    let parts = and_parts (is_less (slice_cmp nat_cmp name k)) (is_below name ms) e in
    (less (slice_cmp nat_cmp name k) parts.0, below name ms parts.1)

-- ---- what can be spelled, at most so deep

abbrev mutual
  pub IsGood : ℕ → Data → Type 0
  IsGood n null = Unit {0}
  IsGood n (boolean b) = Unit {0}
  IsGood n (number x) = IsNumber x
  IsGood n (string s) = IsUtf8 s
  IsGood zero (array ds) = ⊥
  IsGood (suc n) (array ds) = AreGood n ds
  IsGood zero (object ms) = ⊥
  IsGood (suc n) (object ms) = (ascend ms ≡ true) × AreGoodMembers n ms

  pub AreGood : ℕ → Items → Type 0
  AreGood n no_items = Unit {0}
  AreGood n (item d ds) = IsGood n d × AreGood n ds

  pub AreGoodMembers : ℕ → Members → Type 0
  AreGoodMembers n no_members = Unit {0}
  AreGoodMembers n (member k d ms) = IsGood n d × AreGoodMembers n ms

mutual
  pub good_spelled : (n : ℕ) (d : Data) → IsGood n d → IsSpelled d
  good_spelled n null good = tt
  good_spelled n (boolean b) good = tt
  good_spelled n (number x) good = good
  good_spelled n (string s) good = good
  good_spelled zero (array ds) good = absurd good
  good_spelled (suc n) (array ds) good = good_items n ds good
  good_spelled zero (object ms) good = absurd good
  good_spelled (suc n) (object ms) good = good_members n ms good.0 good.1

  good_items : (n : ℕ) (ds : Items) → AreGood n ds → AreSpelled ds
  good_items n no_items good = tt
  good_items n (item d ds) good = (good_spelled n d good.0, good_items n ds good.1)

  good_members : (n : ℕ) (ms : Members) → ascend ms ≡ true → AreGoodMembers n ms → AreMembers ms
  good_members n no_members e good = tt
  good_members n (member k d ms) e good =
      let parts = and_parts (is_ascii k) (is_below k ms && ascend ms) e in
      let order = and_parts (is_below k ms) (ascend ms) parts.1 in
      (utf8_ascii k parts.0, (good_spelled n d good.0, (below k ms order.0, good_members n ms order.1 good.1)))

higher : (a b n : ℕ) → a ≤ n → b ≤ n → max a b ≤ n
higher a b n h k = omega (arith, h, k)

mutual
  pub good_depth : (n : ℕ) (d : Data) → IsGood n d → depth d ≤ n
  good_depth n null good = omega arith
  good_depth n (boolean b) good = omega arith
  good_depth n (number x) good = omega arith
  good_depth n (string s) good = omega arith
  good_depth zero (array ds) good = absurd good
  good_depth (suc n) (array ds) good = omega (arith, items_good_depth n ds good)
  good_depth zero (object ms) good = absurd good
  good_depth (suc n) (object ms) good = omega (arith, members_good_depth n ms good.1)

  items_good_depth : (n : ℕ) (ds : Items) → AreGood n ds → items_depth ds ≤ n
  items_good_depth n no_items good = omega arith
  items_good_depth n (item d ds) good =
      higher (depth d) (items_depth ds) n (good_depth n d good.0) (items_good_depth n ds good.1)

  members_good_depth : (n : ℕ) (ms : Members) → AreGoodMembers n ms → members_depth ms ≤ n
  members_good_depth n no_members good = omega arith
  members_good_depth n (member k d ms) good =
      higher (depth d) (members_depth ms) n (good_depth n d good.0) (members_good_depth n ms good.1)

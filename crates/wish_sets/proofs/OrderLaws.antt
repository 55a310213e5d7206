-- Wishes in order: a key says its wish, an insertion keeps the order, and what was inserted is found.
use Rattle.std.proofs.Common.{◌≡◌, ℕ, Bool, true, false, List, [], ◌∷◌, refl, ap, sym, ◌∙◌}
use Rattle.std.specs.Prelude.{◌||◌, ◌==◌, fold, if◌then◌else◌}
use Rattle.std.specs.BTreeSet.{insert_key}
use Rattle.std.specs.Cmp.{IsTotalOrder}
use Rattle.std.specs.List.{list_any, AllByRecursion}
use Rattle.std.specs.List.Sorted.{IsStrictlySortedBy}
use Rattle.std.specs.Ordering.{match_ordering, ordering_reverse}
use Rattle.std.specs.declared.cmp.Ordering.{Ordering}
use Rattle.std.specs.declared.cmp.Ordering.TheVariants.{Less, Equal, Greater}
use Rattle.std.proofs.lemmas.Map.Lookups.{exact_bytes}
use Rattle.jdwp_values.specs.Tags.{byte_of_type_tag}
use Rattle.jdwp_values.specs.declared.tag.TypeTag.{TypeTag}
use Rattle.jdwp_values.specs.declared.tag.TypeTag.TheVariants as tags
use Rattle.wish_sets.specs.declared.wish.Depth.{Depth}
use Rattle.wish_sets.specs.declared.wish.Depth.TheVariants.{Into, Over, Out}
use Rattle.wish_sets.specs.declared.wish.Wish.{Wish}
use Rattle.wish_sets.specs.declared.wish.Wish.TheVariants as wishes
use Rattle.wish_sets.specs.Order.{wish_cmp, wish_key, bit, number_of_depth}

-- Keys ----------------------------------------------------------------------------------------------------------------

-- a key, read back
abbrev tag_at : ℕ → TypeTag
tag_at byte =
    if byte == 0 then tags.Nothing
    else (if byte == 1 then tags.Class else (if byte == 2 then tags.Interface else tags.Array))

abbrev depth_at : ℕ → Depth
depth_at n = if n == 0 then Into else (if n == 1 then Over else Out)

abbrev stop_at : List ℕ → Wish
stop_at (class ∷ method ∷ index ∷ tag ∷ []) = wishes.Stop (record {
  tag = tag_at tag;
  class = record { 0 = class };
  method = record { 0 = method };
  index = index;
})
stop_at _ = wishes.ThreadStart

abbrev thrown_at : List ℕ → Wish
thrown_at (caught ∷ uncaught ∷ []) = wishes.Thrown (caught == 1) (uncaught == 1)
thrown_at _ = wishes.ThreadStart

abbrev step_at : List ℕ → Wish
step_at (thread ∷ depth ∷ []) = wishes.Step (record { 0 = thread }) (depth_at depth)
step_at _ = wishes.ThreadStart

abbrev wish_of : ℕ → List ℕ → Wish
wish_of kind said =
    if kind == 0 then wishes.ThreadStart
    else (if kind == 1 then wishes.ThreadDeath
    else (if kind == 2 then wishes.Watch said
    else (if kind == 3 then stop_at said else (if kind == 4 then thrown_at said else step_at said))))

abbrev wish_at : List ℕ → Wish
wish_at [] = wishes.ThreadStart
wish_at (kind ∷ said) = wish_of kind said

tag_at-byte : (tag : TypeTag) → tag_at (byte_of_type_tag tag) ≡ tag
tag_at-byte tags.Nothing = refl
tag_at-byte tags.Class = refl
tag_at-byte tags.Interface = refl
tag_at-byte tags.Array = refl

depth_at-number : (depth : Depth) → depth_at (number_of_depth depth) ≡ depth
depth_at-number Into = refl
depth_at-number Over = refl
depth_at-number Out = refl

flag_at-bit : (flag : Bool) → (bit flag == 1) ≡ flag
flag_at-bit true = refl
flag_at-bit false = refl

wish_at-key : (wish : Wish) → wish_at (wish_key wish) ≡ wish
wish_at-key wishes.ThreadStart = refl
wish_at-key wishes.ThreadDeath = refl
wish_at-key (wishes.Watch path) = refl
wish_at-key (wishes.Stop at) = ap (λ tag. wishes.Stop (record at { tag = tag })) (tag_at-byte at.tag)
wish_at-key (wishes.Thrown caught uncaught) =
    ap (λ flag. wishes.Thrown flag (bit uncaught == 1)) (flag_at-bit caught)
    ∙ ap (wishes.Thrown caught) (flag_at-bit uncaught)
wish_at-key (wishes.Step thread depth) = ap (wishes.Step thread) (depth_at-number depth)

-- wishes that are alike are one
pub one_wish : (a b : Wish) → wish_cmp a b ≡ Equal → a ≡ b
one_wish a b e = sym (wish_at-key a) ∙ ap wish_at (exact_bytes (wish_key a) (wish_key b) e) ∙ wish_at-key b

-- Insertion -----------------------------------------------------------------------------------------------------------

module _ {K : Type 0} (cmp : K → K → Ordering) where
  -- what each item passes, the items and one more pass
  pub each-insert : (P : K → Type 0) (k : K) (ks : List K) → P k → AllByRecursion P ks
      → AllByRecursion P (insert_key cmp ks k)
  each-insert P k [] p all = (p, tt)
  each-insert P k (x ∷ xs) p all = by (cmp k x) (each-insert P k xs p all.1)
    where
      by : (o : Ordering) → AllByRecursion P (insert_key cmp xs k)
          → AllByRecursion P (match_ordering o (k ∷ x ∷ xs) (x ∷ xs) (x ∷ insert_key cmp xs k))
      by Less again = (p, all)
      by Equal again = all
      by Greater again = (all.0, again)

  -- a test that does not tell alike items apart is passed by one of them, or by the one more
  pub any-insert : (test : K → Bool) → ((a b : K) → cmp a b ≡ Equal → test a ≡ test b) → (k : K) (ks : List K)
      → list_any test (insert_key cmp ks k) ≡ (test k || list_any test ks)
  any-insert test alike k [] = refl
  any-insert test alike k (x ∷ xs) = by (cmp k x) refl (any-insert test alike k xs)
    where
      same : (a b c : Bool) → a ≡ b → (b || c) ≡ (a || (b || c))
      same true b c e = sym (ap (λ v. v || c) e) ∙ refl
      same false b c e = refl

      swap : (a b c d : Bool) → d ≡ (a || c) → (b || d) ≡ (a || (b || c))
      swap true true c d e = refl
      swap true false c d e = e
      swap false b c d e = ap (λ v. b || v) e

      by : (o : Ordering) → cmp k x ≡ o → list_any test (insert_key cmp xs k) ≡ (test k || list_any test xs)
          → list_any test (match_ordering o (k ∷ x ∷ xs) (x ∷ xs) (x ∷ insert_key cmp xs k))
          ≡ (test k || (test x || list_any test xs))
      by Less e again = refl
      by Equal e again = same (test k) (test x) (list_any test xs) (alike k x e)
      by Greater e again = swap (test k) (test x) (list_any test xs) (list_any test (insert_key cmp xs k)) again

module _ {K : Type 0} {cmp : K → K → Ordering} (total : IsTotalOrder cmp) where
  -- the other way round
  pub after : (a b : K) → cmp a b ≡ Greater → cmp b a ≡ Less
  after a b e = total.antisymm b a ∙ ap ordering_reverse e

  -- what comes before the first comes before all
  pub before_all : (k x : K) (xs : List K) → cmp k x ≡ Less → AllByRecursion (λ y. cmp x y ≡ Less) xs
      → AllByRecursion (λ y. cmp k y ≡ Less) xs
  before_all k x [] e all = tt
  before_all k x (y ∷ ys) e all = (total.trans k x y e all.0, before_all k x ys e all.1)

  -- an insertion keeps the order
  pub sorted-insert : (k : K) (ks : List K) → IsStrictlySortedBy cmp ks → IsStrictlySortedBy cmp (insert_key cmp ks k)
  unfolding IsStrictlySortedBy
  sorted-insert k [] sorted = (tt, tt)
  sorted-insert k (x ∷ xs) sorted = by (cmp k x) refl (sorted-insert k xs sorted.1)
    where
      by : (o : Ordering) → cmp k x ≡ o → IsStrictlySortedBy cmp (insert_key cmp xs k)
          → IsStrictlySortedBy cmp (match_ordering o (k ∷ x ∷ xs) (x ∷ xs) (x ∷ insert_key cmp xs k))
      by Less e again = ((e, before_all k x xs e sorted.0), sorted)
      by Equal e again = sorted
      by Greater e again = (each-insert cmp (λ y. cmp x y ≡ Less) k xs (after k x e) sorted.0, again)

  -- so do many
  pub sorted-fold : (start ks : List K) → IsStrictlySortedBy cmp start
      → IsStrictlySortedBy cmp (fold (insert_key cmp) start ks)
  sorted-fold start [] sorted = sorted
  sorted-fold start (k ∷ ks) sorted = sorted-fold (insert_key cmp start k) ks (sorted-insert k start sorted)

module _ {K : Type 0} (cmp : K → K → Ordering) (test : K → Bool)
    (alike : (a b : K) → cmp a b ≡ Equal → test a ≡ test b) where
  pub any-fold : (start ks : List K)
      → list_any test (fold (insert_key cmp) start ks) ≡ (list_any test start || list_any test ks)
  any-fold start [] = plain (list_any test start)
    where
      plain : (b : Bool) → b ≡ (b || false)
      plain true = refl
      plain false = refl
  any-fold start (k ∷ ks) =
      any-fold (insert_key cmp start k) ks
      ∙ (ap (λ v. v || list_any test ks) (any-insert cmp test alike k start)
      ∙ turn (test k) (list_any test start) (list_any test ks))
    where
      turn : (a b c : Bool) → ((a || b) || c) ≡ (b || (a || c))
      turn true true c = refl
      turn true false c = refl
      turn false b c = refl

-- What is put back, the last first.
use Rattle.std.proofs.Common.{◌≡◌, ℕ, zero, suc, ◌-◌, ◌≤◌, Bool, true, false, cond, List, [], ◌∷◌, ◌++◌, length, take}
use Rattle.std.proofs.Common.{length-append}
use Rattle.std.proofs.Common.{drop, slice_get, Option, Some, None, refl, ap, sym, ◌∙◌, arith}
use Rattle.std.specs.Map.{lookup, set_value}
use Rattle.class_tables.specs.Facts.{same_class}
use Rattle.class_tables.specs.Lookups.{Lookups}
use Rattle.class_tables.specs.Tables.{put}
use Rattle.jdwp_values.specs.declared.id.ClassId.{ClassId}
use Rattle.wish_sets.specs.declared.facts.KnownClass.{KnownClass}
use Rattle.wish_sets.specs.declared.known.Replaced.{Replaced}
use Rattle.wish_sets.specs.Tables.{all_known, put_back, undone, with_value}
use Rattle.wish_sets.specs.Wanted.{Wanted, with_known, put_known, class_found}

-- the last is taken back first
pub undone_append : (those : List Replaced) (one : Replaced) (entries : List (ClassId × KnownClass))
    → undone (those ++ one ∷ []) entries ≡ undone those (put_back same_class one.class one.facts entries)
undone_append [] one entries = refl
undone_append (other ∷ those) one entries = ap (put_back same_class other.class other.facts) (undone_append those one entries)

-- classes that are made known change nothing but what is known of classes
pub known_is : (known : Lookups) (those : List ClassId) (wanted : Wanted)
    → with_known known those wanted ≡ record wanted { classes = all_known known those wanted.classes }
known_is known [] wanted = refl
known_is known (class ∷ others) wanted =
    known_is known others (record wanted { classes = put_known class (class_found known class) wanted.classes })

module _ {K V : Type 0} where
  -- beyond the end nothing is changed
  pub value_beyond : (xs : List (K × V)) (k : ℕ) (value : V) → length xs ≤ k → with_value k value xs ≡ xs
  value_beyond [] k value e = refl
  value_beyond (x ∷ xs) zero value e = absurd (omega (arith, e))
  value_beyond (x ∷ xs) (suc k) value e = ap (λ ys. x ∷ ys) (value_beyond xs k value (omega (arith, e)))

-- Values under keys ---------------------------------------------------------------------------------------------------

module _ {K V : Type 0} (same : K → K → Bool) (key : K) (value : V) where
  -- a value that stands there already changes nothing
  pub put_again : (entries : List (K × V)) → Some value ≡ lookup (same key) entries
      → put same key value entries ≡ entries
  put_again [] e = absurd (cc)
  put_again (entry ∷ entries) e = by (same key entry.0) e (put_again entries)
    where
      by : (b : Bool) → Some value ≡ cond b (Some entry.1) (lookup (same key) entries)
          → (Some value ≡ lookup (same key) entries → put same key value entries ≡ entries)
          → cond b ((entry.0, value) ∷ entries) (entry ∷ put same key value entries) ≡ entry ∷ entries
      by true e again = let is : value ≡ entry.1 = cc in ap (λ (v : V). (entry.0, v) ∷ entries) is
      by false e again = ap (λ (l : List (K × V)). entry ∷ l) (again e)

  put_there : (entries : List (K × V)) (before : V) → Some before ≡ lookup (same key) entries
      → set_value (same key) (put same key value entries) before ≡ entries
  put_there [] before e = absurd (cc)
  put_there (entry ∷ entries) before e = by (same key entry.0) refl e (put_there entries before)
    where
      by : (b : Bool) → same key entry.0 ≡ b → Some before ≡ cond b (Some entry.1) (lookup (same key) entries)
          → (Some before ≡ lookup (same key) entries
          → set_value (same key) (put same key value entries) before ≡ entries)
          → set_value (same key) (cond b ((entry.0, value) ∷ entries) (entry ∷ put same key value entries)) before
          ≡ entry ∷ entries
      by true f e again =
          let is : before ≡ entry.1 = cc in rw f (ap (λ (v : V). (entry.0, v) ∷ entries) is)
      by false f e again = rw f (ap (λ (l : List (K × V)). entry ∷ l) (again e))

  put_last : (entries : List (K × V)) → None ≡ lookup (same key) entries
      → put same key value entries ≡ entries ++ (key, value) ∷ []
  put_last [] e = refl
  put_last (entry ∷ entries) e = by (same key entry.0) e (put_last entries)
    where
      by : (b : Bool) → None ≡ cond b (Some entry.1) (lookup (same key) entries)
          → (None ≡ lookup (same key) entries → put same key value entries ≡ entries ++ (key, value) ∷ [])
          → cond b ((entry.0, value) ∷ entries) (entry ∷ put same key value entries)
          ≡ entry ∷ (entries ++ (key, value) ∷ [])
      by true e again = absurd (cc)
      by false e again = ap (λ (l : List (K × V)). entry ∷ l) (again e)

  front : (entries : List (K × V)) (last : K × V) → take (length entries) (entries ++ last ∷ []) ≡ entries
  front [] last = refl
  front (entry ∷ entries) last = ap (λ (l : List (K × V)). entry ∷ l) (front entries last)

  front_of : (entries : List (K × V)) (last : K × V)
      → take (length (entries ++ last ∷ []) - 1) (entries ++ last ∷ []) ≡ entries
  front_of entries last =
      let count : length (entries ++ last ∷ []) - 1 ≡ length entries =
      (let all = length-append entries (last ∷ []) in omega (arith, all)) in
      ap (λ n. take n (entries ++ last ∷ [])) count ∙ front entries last

  -- a value is put where its key is, and nowhere else
  pub set_nowhere : (entries : List (K × V)) → None ≡ lookup (same key) entries
      → set_value (same key) entries value ≡ entries
  set_nowhere [] e = refl
  set_nowhere (entry ∷ entries) e = by (same key entry.0) e (set_nowhere entries)
    where
      by : (b : Bool) → None ≡ cond b (Some entry.1) (lookup (same key) entries)
          → (None ≡ lookup (same key) entries → set_value (same key) entries value ≡ entries)
          → cond b ((entry.0, value) ∷ entries) (entry ∷ set_value (same key) entries value) ≡ entry ∷ entries
      by true e again = absurd (cc)
      by false e again = ap (λ (l : List (K × V)). entry ∷ l) (again e)

  -- what was put is taken back
  pub put_back_is : (entries : List (K × V)) (before : Option V) → before ≡ lookup (same key) entries
      → put_back same key before (put same key value entries) ≡ entries
  put_back_is entries None e =
      ap (λ (l : List (K × V)). take (length l - 1) l) (put_last entries e) ∙ front_of entries (key, value)
  put_back_is entries (Some before) e = put_there entries before e

-- Entries, one by one -------------------------------------------------------------------------------------------------

module _ {A : Type 0} where
  pub drop_one : (xs : List A) (k : ℕ) (x : A) → Some x ≡ slice_get xs k → drop k xs ≡ x ∷ drop (suc k) xs
  drop_one [] k x e = absurd (cc)
  drop_one (y ∷ xs) zero x e = let is : x ≡ y = cc in ap (λ (z : A). z ∷ xs) (sym is)
  drop_one (y ∷ xs) (suc k) x e = drop_one xs k x e

  drop_nothing : (k : ℕ) → drop {A = A} k [] ≡ drop (suc k) []
  drop_nothing zero = refl
  drop_nothing (suc k) = refl

  pub drop_none : (xs : List A) (k : ℕ) → None ≡ slice_get xs k → drop k xs ≡ drop (suc k) xs
  drop_none [] k e = drop_nothing k
  drop_none (y ∷ xs) zero e = absurd (cc)
  drop_none (y ∷ xs) (suc k) e = drop_none xs k e

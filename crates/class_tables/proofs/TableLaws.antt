-- Tables as maps in the order of insertion, and what they find after a value was put.
use Rattle.std.proofs.Common.{◌≡◌, Bool, true, false, List, [], ◌∷◌, ◌++◌, Option, Some, cond, refl, ap, ◌∙◌}
use Rattle.std.specs.Prelude.{◌||◌}
use Rattle.std.specs.List.{list_any}
use Rattle.std.specs.Map.{lookup}
use Rattle.std.proofs.lemmas.Bool.{cond-true, cond-false}
use Rattle.indexmap.specs.IndexMap.{insert_entry}
use Rattle.class_tables.specs.Tables.{under, put, keys}

module _ {K V : Type 0} (same : K → K → Bool) (key : K) where
  -- what an insertion makes
  pub inserted : (value : V) (entries : List (K × V)) → insert_entry same entries key value ≡ put same key value entries
  inserted value [] = refl
  inserted value (entry ∷ entries) =
      ap (λ rest. cond (same key entry.0) ((entry.0, value) ∷ entries) (entry ∷ rest)) (inserted value entries)

  -- what a look-up finds
  pub looked_up : (entries : List (K × V)) → lookup (same key) entries ≡ under same key entries
  looked_up [] = refl
  looked_up (entry ∷ entries) =
      ap (λ (rest : Option V). cond (same key entry.0) (Some entry.1) rest) (looked_up entries)

  -- the keys after a value was put
  pub keys-put : (value : V) (entries : List (K × V))
      → keys (put same key value entries)
      ≡ cond (list_any (same key) (keys entries)) (keys entries) (keys entries ++ key ∷ [])
  keys-put value [] = refl
  keys-put value (entry ∷ entries) = by (same key entry.0) (list_any (same key) (keys entries)) (keys-put value entries)
    where
      by : (b c : Bool) → keys (put same key value entries) ≡ cond c (keys entries) (keys entries ++ key ∷ [])
          → keys (cond b ((entry.0, value) ∷ entries) (entry ∷ put same key value entries))
          ≡ cond (b || c) (keys (entry ∷ entries)) (keys (entry ∷ entries) ++ key ∷ [])
      by true c again = refl
      by false true again = ap (λ (l : List K). entry.0 ∷ l) again
      by false false again = ap (λ (l : List K). entry.0 ∷ l) again

module _ {K V : Type 0} (same : K → K → Bool) (one : (a b : K) → same a b ≡ true → a ≡ b) (key : K) (value : V) where
  -- a key finds what was put under it last, and each other key what it found before
  pub under-put : (asked : K) (entries : List (K × V))
      → under same asked (put same key value entries) ≡ cond (same asked key) (Some value) (under same asked entries)
  under-put asked [] = refl
  under-put asked (entry ∷ entries) =
      by (same key entry.0) refl (same asked entry.0) refl (same asked key) refl (under-put asked entries)
    where
      by : (b : Bool) → same key entry.0 ≡ b → (c : Bool) → same asked entry.0 ≡ c → (d : Bool) → same asked key ≡ d
          → under same asked (put same key value entries) ≡ cond d (Some value) (under same asked entries)
          → under same asked (cond b ((entry.0, value) ∷ entries) (entry ∷ put same key value entries))
          ≡ cond d (Some value) (cond c (Some entry.1) (under same asked entries))
      by true e true f true g again = cond-true (same asked entry.0) (Some value) (under same asked entries) f
      by true e false f false g again = cond-false (same asked entry.0) (Some value) (under same asked entries) f
      by true e true f false g again = absurd (let is = ap (same asked) (one key entry.0 e) in cc)
      by true e false f true g again = absurd (let is = ap (same asked) (one key entry.0 e) in cc)
      by false e true f true g again =
          absurd (let is = ap (λ (k : K). same k entry.0) (one asked key g) in cc)
      by false e true f false g again =
          cond-true (same asked entry.0) (Some entry.1) (under same asked (put same key value entries)) f
      by false e false f d g again =
          cond-false (same asked entry.0) (Some entry.1) (under same asked (put same key value entries)) f ∙ again

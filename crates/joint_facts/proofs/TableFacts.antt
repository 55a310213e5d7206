-- What holds of each entry of a table holds of what is found there.
use Rattle.std.proofs.Common.{◌≡◌, ◌∙◌, Bool, true, false, cond, List, [], ◌∷◌, refl, sym, ap, subst}
use Rattle.std.proofs.Common.{Some}
use Rattle.std.proofs.lemmas.Bool.{eqb-true}
use Rattle.std.specs.List.{AllByRecursion}
use Rattle.std.specs.Prelude.{◌==◌, ◌&&◌}
use Rattle.class_tables.specs.Facts.{MethodOf, same_class, same_method}
use Rattle.class_tables.specs.Tables.{put, under}
use Rattle.jdwp_values.specs.declared.id.ClassId.{ClassId}
use Rattle.jdwp_values.specs.declared.id.MethodId.{MethodId}

pub one_class : (a b : ClassId) → same_class a b ≡ true → a ≡ b
one_class a b is = ap (λ n. record { 0 = n }) (eqb-true a.0 b.0 is)

both : (a b : Bool) → (a && b) ≡ true → (a ≡ true) × (b ≡ true)
both true b is = (refl, is)
both false b is = absurd cc

pub one_method : (a b : MethodOf) → same_method a b ≡ true → a ≡ b
one_method a b is =
    let two = both (same_class a.0 b.0) (a.1.0 == b.1.0) is in
    let class : a.0 ≡ b.0 = one_class a.0 b.0 two.0 in
    let method : a.1 ≡ b.1 = ap (λ n. record { 0 = n }) (eqb-true a.1.0 b.1.0 two.1) in
    ap (λ (c : ClassId). (c, a.1)) class ∙ ap (λ (m : MethodId). (b.0, m)) method

-- each entry of a table is so
abbrev pub AllSo : {K V : Type 0} → (K → V → Type 0) → List (K × V) → Type 0
AllSo P entries = AllByRecursion (λ entry. P entry.0 entry.1) entries

module _ {K V : Type 0} (P : K → V → Type 0) (same : K → K → Bool) (one : (a b : K) → same a b ≡ true → a ≡ b)
    (key : K) where
  pub put_so : (value : V) (entries : List (K × V)) → P key value → AllSo P entries
      → AllSo P (put same key value entries)
  put_so value [] so are = (so, tt)
  put_so value (entry ∷ entries) so are = by (same key entry.0) refl (put_so value entries so are.1) where
    by : (b : Bool) → same key entry.0 ≡ b → AllSo P (put same key value entries)
        → AllSo P (cond b ((entry.0, value) ∷ entries) (entry ∷ put same key value entries))
    by true is rest = (subst (λ (k : K). P k value) (one key entry.0 is) so, are.1)
    by false is rest = (are.0, rest)

  pub under_so : (entries : List (K × V)) (found : V) → AllSo P entries → under same key entries ≡ Some found
      → P key found
  under_so [] found are is = absurd cc
  under_so (entry ∷ entries) found are is = by (same key entry.0) refl (under_so entries found are.1) is where
    by : (b : Bool) → same key entry.0 ≡ b → (under same key entries ≡ Some found → P key found)
        → cond b (Some entry.1) (under same key entries) ≡ Some found → P key found
    by true here later h =
        let value : entry.1 ≡ found = cc in
        subst (λ (v : V). P key v) value (subst (λ (k : K). P k entry.1) (sym (one key entry.0 here)) are.0)
    by false here later h = later h

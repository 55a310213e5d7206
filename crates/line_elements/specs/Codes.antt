-- Codes of JSON data, one to one, by which proofs tell it apart.
use mathlib.Core.Path.{◌≡◌, refl, ap, subst, ◌∙◌}
use base.Stored.{Gv, gnil, gnum, gcons, Coded, coded_bool, coded_ℤ, coded_float}
use Rattle.std.specs.Coded.{coded_ℕ, coded_list}
use Rattle.std.specs.Prelude.{ℕ, ℤ, List, Bool, T, nat_eq, Float}
use Rattle.serde_json.specs.Data.{Num, unsigned, negative, float, Data, null, boolean, number, string, array, object}
use Rattle.serde_json.specs.Data.{Items, no_items, item, Members, no_members, member}

abbrev pub coded_bytes : Coded (List ℕ)
coded_bytes = coded_list coded_ℕ

-- what stands in front in a code, and behind it
abbrev pub front : Gv → Gv
front gnil = gnil
front (gnum n) = gnil
front (gcons a b) = a

abbrev pub behind : Gv → Gv
behind gnil = gnil
behind (gnum n) = gnil
behind (gcons a b) = b

-- a code with this number in front
abbrev pub IsNumbered : ℕ → Gv → Type 0
IsNumbered n gnil = ⊥
IsNumbered n (gnum m) = T (nat_eq n m)
IsNumbered n (gcons a b) = ⊥

abbrev pub IsNil : Gv → Type 0
IsNil gnil = Unit {0}
IsNil (gnum m) = ⊥
IsNil (gcons a b) = ⊥

abbrev pub Is : ℕ → Gv → Type 0
Is n code = IsNumbered n (front code)

abbrev pub num_code : Num → Gv
num_code (unsigned n) = gcons (gnum 0) (gnum n)
num_code (negative z) = gcons (gnum 1) (coded_ℤ.code z)
num_code (float x) = gcons (gnum 2) (coded_float.code x)

abbrev mutual
  pub data_code : Data → Gv
  data_code null = gcons (gnum 0) gnil
  data_code (boolean b) = gcons (gnum 1) (coded_bool.code b)
  data_code (number n) = gcons (gnum 2) (num_code n)
  data_code (string s) = gcons (gnum 3) (coded_bytes.code s)
  data_code (array ds) = gcons (gnum 4) (items_code ds)
  data_code (object ms) = gcons (gnum 5) (members_code ms)

  pub items_code : Items → Gv
  items_code no_items = gnil
  items_code (item d ds) = gcons (gnum 1) (gcons (data_code d) (items_code ds))

  pub members_code : Members → Gv
  members_code no_members = gnil
  members_code (member k d ms) = gcons (gnum 1) (gcons (coded_bytes.code k) (gcons (data_code d) (members_code ms)))

num_one : (x y : Num) → num_code x ≡ num_code y → x ≡ y
num_one (unsigned n) (unsigned m) p = ap unsigned (coded_ℕ.inj n m (ap behind p))
num_one (unsigned n) (negative w) p = absurd (subst (Is 0) p tt)
num_one (unsigned n) (float b) p = absurd (subst (Is 0) p tt)
num_one (negative z) (unsigned m) p = absurd (subst (Is 1) p tt)
num_one (negative z) (negative w) p = ap negative (coded_ℤ.inj z w (ap behind p))
num_one (negative z) (float b) p = absurd (subst (Is 1) p tt)
num_one (float a) (unsigned m) p = absurd (subst (Is 2) p tt)
num_one (float a) (negative w) p = absurd (subst (Is 2) p tt)
num_one (float a) (float b) p = ap float (coded_float.inj a b (ap behind p))

mutual
  pub data_one : (x y : Data) → data_code x ≡ data_code y → x ≡ y
  data_one null null p = refl
  data_one null (boolean b2) p = absurd (subst (Is 0) p tt)
  data_one null (number n2) p = absurd (subst (Is 0) p tt)
  data_one null (string s2) p = absurd (subst (Is 0) p tt)
  data_one null (array ds2) p = absurd (subst (Is 0) p tt)
  data_one null (object ms2) p = absurd (subst (Is 0) p tt)
  data_one (boolean b) null p = absurd (subst (Is 1) p tt)
  data_one (boolean b) (boolean b2) p = ap boolean (coded_bool.inj b b2 (ap behind p))
  data_one (boolean b) (number n2) p = absurd (subst (Is 1) p tt)
  data_one (boolean b) (string s2) p = absurd (subst (Is 1) p tt)
  data_one (boolean b) (array ds2) p = absurd (subst (Is 1) p tt)
  data_one (boolean b) (object ms2) p = absurd (subst (Is 1) p tt)
  data_one (number n) null p = absurd (subst (Is 2) p tt)
  data_one (number n) (boolean b2) p = absurd (subst (Is 2) p tt)
  data_one (number n) (number n2) p = ap number (num_one n n2 (ap behind p))
  data_one (number n) (string s2) p = absurd (subst (Is 2) p tt)
  data_one (number n) (array ds2) p = absurd (subst (Is 2) p tt)
  data_one (number n) (object ms2) p = absurd (subst (Is 2) p tt)
  data_one (string s) null p = absurd (subst (Is 3) p tt)
  data_one (string s) (boolean b2) p = absurd (subst (Is 3) p tt)
  data_one (string s) (number n2) p = absurd (subst (Is 3) p tt)
  data_one (string s) (string s2) p = ap string (coded_bytes.inj s s2 (ap behind p))
  data_one (string s) (array ds2) p = absurd (subst (Is 3) p tt)
  data_one (string s) (object ms2) p = absurd (subst (Is 3) p tt)
  data_one (array ds) null p = absurd (subst (Is 4) p tt)
  data_one (array ds) (boolean b2) p = absurd (subst (Is 4) p tt)
  data_one (array ds) (number n2) p = absurd (subst (Is 4) p tt)
  data_one (array ds) (string s2) p = absurd (subst (Is 4) p tt)
  data_one (array ds) (array ds2) p = ap array (items_one ds ds2 (ap behind p))
  data_one (array ds) (object ms2) p = absurd (subst (Is 4) p tt)
  data_one (object ms) null p = absurd (subst (Is 5) p tt)
  data_one (object ms) (boolean b2) p = absurd (subst (Is 5) p tt)
  data_one (object ms) (number n2) p = absurd (subst (Is 5) p tt)
  data_one (object ms) (string s2) p = absurd (subst (Is 5) p tt)
  data_one (object ms) (array ds2) p = absurd (subst (Is 5) p tt)
  data_one (object ms) (object ms2) p = ap object (members_one ms ms2 (ap behind p))

  pub items_one : (x y : Items) → items_code x ≡ items_code y → x ≡ y
  items_one no_items no_items p = refl
  items_one no_items (item d ds) p = absurd (subst IsNil p tt)
  items_one (item d ds) no_items p = absurd (subst (Is 1) p tt)
  items_one (item d ds) (item e es) p =
      ap (λ x. item x ds) (data_one d e (ap (λ c. front (behind c)) p))
      ∙ ap (item e) (items_one ds es (ap (λ c. behind (behind c)) p))

  pub members_one : (x y : Members) → members_code x ≡ members_code y → x ≡ y
  members_one no_members no_members p = refl
  members_one no_members (member k d ms) p = absurd (subst IsNil p tt)
  members_one (member k d ms) no_members p = absurd (subst (Is 1) p tt)
  members_one (member k d ms) (member l e ns) p =
      ap (λ x. member x d ms) (coded_bytes.inj k l (ap (λ c. front (behind c)) p))
      ∙ ap (λ x. member l x ms) (data_one d e (ap (λ c. front (behind (behind c))) p))
      ∙ ap (member l e) (members_one ms ns (ap (λ c. behind (behind (behind c))) p))

abbrev pub coded_data : Coded Data
coded_data = record { code = data_code; inj = data_one }

abbrev pub coded_items : Coded Items
coded_items = record { code = items_code; inj = items_one }

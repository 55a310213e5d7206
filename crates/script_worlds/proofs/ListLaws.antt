-- Lists that grow by one item.
use Rattle.std.proofs.Common.{◌≡◌, ◌∙◌, ℕ, Bool, true, false, cond, List, [], ◌∷◌, ◌++◌, map, refl}
use Rattle.std.proofs.Common.{sym, ap, subst, append_assoc, append-nil, Option, Some, None, nat_eq}
use Rattle.std.specs.Prelude.{find, is_some, ◌||◌, ◌&&◌, option_and_then}
use Rattle.std.specs.List.{AllByRecursion, IsDistinct, list_any, list_all}

-- Tests --------------------------------------------------------------------------------------------------------------

pub first_of : (a b : Bool) → (a && b) ≡ true → a ≡ true
first_of true b h = refl
first_of false b h = absurd cc

pub second_of : (a b : Bool) → (a && b) ≡ true → b ≡ true
second_of true b h = h
second_of false b h = absurd cc

pub no_first : (a b : Bool) → (a || b) ≡ false → a ≡ false
no_first true b h = absurd cc
no_first false b h = refl

pub no_second : (a b : Bool) → (a || b) ≡ false → b ≡ false
no_second true b h = absurd cc
no_second false b h = h

-- One item more somewhere --------------------------------------------------------------------------------------------

-- the new list has one item more than the old one
pub record Splits {A : Type 0} (old new : List A) (x : A) : Type 0 where
  pub front : List A
  pub back : List A
  pub old_is : old ≡ front ++ back
  pub new_is : new ≡ front ++ x ∷ back

pub at_end : {A : Type 0} (xs : List A) (x : A) → Splits xs (xs ++ x ∷ []) x
at_end xs x = record { front = xs; back = []; old_is = sym (append-nil xs); new_is = refl }

pub before : {A : Type 0} (xs ys : List A) (x : A) → Splits (xs ++ ys) ((xs ++ x ∷ []) ++ ys) x
before xs ys x = record { front = xs; back = ys; old_is = refl; new_is = append_assoc xs (x ∷ []) ys }

pub behind : {A : Type 0} (zs old new : List A) (x : A) → Splits old new x → Splits (zs ++ old) (zs ++ new) x
behind zs old new x s = record {
  front = zs ++ s.front;
  back = s.back;
  old_is = ap (λ xs. zs ++ xs) s.old_is ∙ sym (append_assoc zs s.front s.back);
  new_is = ap (λ xs. zs ++ xs) s.new_is ∙ sym (append_assoc zs s.front (x ∷ s.back));
}

insert_all : {A : Type 0} (P : A → Type 0) (xs ys : List A) (x : A) → AllByRecursion P (xs ++ ys) → P x
    → AllByRecursion P (xs ++ x ∷ ys)
insert_all P [] ys x h p = (p, h)
insert_all P (z ∷ xs) ys x h p = (h.0, insert_all P xs ys x h.1 p)

-- what holds of all items and of the new one
pub all_with : {A : Type 0} (P : A → Type 0) (old new : List A) (x : A) → Splits old new x → AllByRecursion P old → P x
    → AllByRecursion P new
all_with P old new x s h p =
    subst (AllByRecursion P) (sym s.new_is)
    (insert_all P s.front s.back x (subst (AllByRecursion P) s.old_is h) p)

pub all_push : {A : Type 0} (P : A → Type 0) (xs : List A) (x : A) → AllByRecursion P xs → P x
    → AllByRecursion P (xs ++ x ∷ [])
all_push P xs x h p = all_with P xs (xs ++ x ∷ []) x (at_end xs x) h p

module _ {K : Type 0} (eq : K → K → Bool) (swap : (a b : K) → eq a b ≡ eq b a) where
  none_equal : (x : K) (ys : List K) → list_any (eq x) ys ≡ false → AllByRecursion (λ y. eq x y ≡ false) ys
  none_equal x [] h = tt
  none_equal x (y ∷ ys) h =
      (no_first (eq x y) (list_any (eq x) ys) h, none_equal x ys (no_second (eq x y) (list_any (eq x) ys) h))

  insert_distinct : (xs ys : List K) (x : K) → IsDistinct eq (xs ++ ys) → list_any (eq x) (xs ++ ys) ≡ false
      → IsDistinct eq (xs ++ x ∷ ys)
  unfolding IsDistinct
  insert_distinct [] ys x h new = (none_equal x ys new, h)
  insert_distinct (z ∷ xs) ys x h new = (
    insert_all (λ y. eq z y ≡ false) xs ys x h.0
        (swap z x ∙ no_first (eq x z) (list_any (eq x) (xs ++ ys)) new),
    insert_distinct xs ys x h.1 (no_second (eq x z) (list_any (eq x) (xs ++ ys)) new),
  )

  -- items stay apart with one more that is equal to none
  pub distinct_with : (old new : List K) (x : K) → Splits old new x → IsDistinct eq old → list_any (eq x) old ≡ false
      → IsDistinct eq new
  distinct_with old new x s h none =
      subst (IsDistinct eq) (sym s.new_is)
      (insert_distinct s.front s.back x (subst (IsDistinct eq) s.old_is h)
      (subst (λ ks. list_any (eq x) ks ≡ false) s.old_is none))

  -- a key among those of rows
  pub among_keys : {A : Type 0} (key : A → K) (x : K) (rows : List A)
      → list_any (eq x) (map key rows) ≡ list_any (λ row. eq (key row) x) rows
  among_keys key x [] = refl
  among_keys key x (row ∷ rows) =
      ap (λ b. b || list_any (eq x) (map key rows)) (swap x (key row))
      ∙ ap (λ b. eq (key row) x || b) (among_keys key x rows)

-- Scans --------------------------------------------------------------------------------------------------------------

-- where the wider test finds nothing, the narrower one doesn't either
pub none_narrower : {A : Type 0} (p q : A → Bool) (rows : List A) → ((row : A) → p row ≡ true → q row ≡ true)
    → list_any q rows ≡ false → list_any p rows ≡ false
none_narrower p q [] wider h = refl
none_narrower p q (row ∷ rows) wider h =
    here (p row) refl (none_narrower p q rows wider (no_second (q row) (list_any q rows) h)) where
      here : (b : Bool) → p row ≡ b → list_any p rows ≡ false → (b || list_any p rows) ≡ false
      here true e later = let found = wider row e in
          let none = no_first (q row) (list_any q rows) h in absurd cc
      here false e later = later

-- what is there is found
pub there_found : {A : Type 0} (p : A → Bool) (rows : List A) → list_any p rows ≡ is_some (find p rows)
there_found p [] = refl
there_found p (row ∷ rows) = by (p row) (there_found p rows) where
  by : (b : Bool) → list_any p rows ≡ is_some (find p rows)
      → (b || list_any p rows) ≡ is_some (cond b (Some row) (find p rows))
  by true later = refl
  by false later = later

-- what was found is found among more rows too
pub found_more : {A : Type 0} (p : A → Bool) (rows : List A) (row found : A) → find p rows ≡ Some found
    → find p (rows ++ row ∷ []) ≡ Some found
found_more p [] row found h = absurd cc
found_more p (r ∷ rows) row found h = by (p r) h (found_more p rows row found) where
  by : (b : Bool) → cond b (Some r) (find p rows) ≡ Some found
      → (find p rows ≡ Some found → find p (rows ++ row ∷ []) ≡ Some found)
      → cond b (Some r) (find p (rows ++ row ∷ [])) ≡ Some found
  by true e later = e
  by false e later = later e

-- and what is said of it stays
pub said_more : {A B : Type 0} (p : A → Bool) (say : A → Option B) (rows : List A) (row : A) (said : B)
    → option_and_then say (find p rows) ≡ Some said → option_and_then say (find p (rows ++ row ∷ [])) ≡ Some said
said_more {A} p say rows row said h = by (find p rows) refl h where
  by : (found : Option A) → find p rows ≡ found → option_and_then say found ≡ Some said
      → option_and_then say (find p (rows ++ row ∷ [])) ≡ Some said
  by None e k = absurd cc
  by (Some r) e k = ap (option_and_then say) (found_more p rows row r e) ∙ k

pub still_there : {A : Type 0} (p : A → Bool) (rows : List A) (row : A) → is_some (find p rows) ≡ true
    → is_some (find p (rows ++ row ∷ [])) ≡ true
still_there {A} p rows row h = by (find p rows) refl h where
  by : (found : Option A) → find p rows ≡ found → is_some found ≡ true
      → is_some (find p (rows ++ row ∷ [])) ≡ true
  by None e k = absurd cc
  by (Some r) e k = ap is_some (found_more p rows row r e)

-- what passes a test that says so
pub all_from : {A : Type 0} (P : A → Type 0) (p : A → Bool) (rows : List A) → ((row : A) → p row ≡ true → P row)
    → list_all p rows ≡ true → AllByRecursion P rows
all_from P p [] is h = tt
all_from P p (row ∷ rows) is h =
    (is row (first_of (p row) (list_all p rows) h), all_from P p rows is (second_of (p row) (list_all p rows) h))

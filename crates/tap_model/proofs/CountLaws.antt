-- How many commands of a kind are pending, and which numbers the questions have that are fit.
use Rattle.std.proofs.Common.{◌≡◌, ℕ, ◌+◌, ◌≤◌, ◌==◌, zero, suc, Bool, true, false, not, cond, List, []}
use Rattle.std.proofs.Common.{◌∷◌, ◌++◌, length, map}
use Rattle.std.proofs.Common.{Some, None, slice_get, refl, sym, ap, ◌∙◌, append_assoc, arith}
use Rattle.std.proofs.Common.{length-append, ◌<◌, slice_set}
use Rattle.std.specs.Prelude.{count_by}
use Rattle.std.specs.List.{AllByRecursion}
use Rattle.std.proofs.lemmas.Bool.{eqb-true}
use Rattle.std.proofs.lemmas.List.Sums.{sum_by-cons, sum_by_push}
use Rattle.tap_model.specs.Laws.{Ascend}
use Rattle.tap_model.specs.Names.{Ask, IdSizes, Owner}
use Rattle.tap_model.specs.Questions.{fitting, is_fit}
use Rattle.tap_model.specs.States.{pending_under, without}

abbrev Pending : Type 0
Pending = List (ℕ × Owner)

-- Counts --------------------------------------------------------------------------------------------------------------

module _ (test : ℕ × Owner → Bool) where
  -- the first command, and the others
  count-cons : (p : ℕ × Owner) (pending : Pending)
      → count_by test (p ∷ pending) ≡ cond (test p) 1 0 + count_by test pending
  count-cons p pending = sum_by-cons (λ (q : ℕ × Owner). cond (test q) 1 0) p pending

  -- one command less, or none
  pub count_without : (id : ℕ) (pending : Pending) → count_by test (without id pending) ≤ count_by test pending
  count_without id [] = omega arith
  count_without id (p ∷ pending) = by (p.0 == id) (count_without id pending)
    where
      by : (b : Bool) → count_by test (without id pending) ≤ count_by test pending
          → count_by test (cond (not b) (p ∷ without id pending) (without id pending)) ≤ count_by test (p ∷ pending)
      by true again = let all = count-cons p pending in omega (arith, again, all)
      by false again =
          let all = count-cons p pending in
          let most = count-cons p (without id pending) in
          omega (arith, again, all, most)

  -- just that one, where it is of the kind
  pub count_settled : (id : ℕ) (owner : Owner) (pending : Pending) → pending_under id pending ≡ Some owner
      → test (id, owner) ≡ true → count_by test (without id pending) + 1 ≤ count_by test pending
  count_settled id owner [] is here = absurd cc
  count_settled id owner (p ∷ pending) is here =
      by (p.0 == id) refl is (count_without id pending) (λ e. count_settled id owner pending e here)
    where
      by : (b : Bool) → (p.0 == id) ≡ b → cond b (Some p.1) (pending_under id pending) ≡ Some owner
          → count_by test (without id pending) ≤ count_by test pending
          → (pending_under id pending ≡ Some owner
          → count_by test (without id pending) + 1 ≤ count_by test pending)
          → count_by test (cond (not b) (p ∷ without id pending) (without id pending)) + 1
          ≤ count_by test (p ∷ pending)
      by true same e less again =
          let first : p.0 ≡ id = eqb-true p.0 id same in
          let second : p.1 ≡ owner = cc in
          let whole : p ≡ (id, owner) = ap (λ n. (n, p.1)) first ∙ ap (λ (o : Owner). (id, o)) second in
          let here : test p ≡ true = ap test whole ∙ here in
          let one : ◌≡◌ {A = ℕ} (cond (test p) 1 0) 1 = ap (λ (b : Bool). cond b 1 0) here in
          let all = count-cons p pending in
          omega (arith, less, all, one)
      by false other e less again =
          let more = again e in
          let all = count-cons p pending in
          let most = count-cons p (without id pending) in
          omega (arith, more, all, most)

  -- one more command behind the others
  pub count_push : (pending : Pending) (p : ℕ × Owner)
      → count_by test (pending ++ p ∷ []) ≡ count_by test pending + cond (test p) 1 0
  count_push pending p = sum_by_push (λ (q : ℕ × Owner). cond (test q) 1 0) pending p

-- Numbers -------------------------------------------------------------------------------------------------------------

-- an element behind others
slice_get-at : {A : Type 0} (before : List A) (a : A) (after : List A)
    → slice_get (before ++ a ∷ after) (length before) ≡ Some a
slice_get-at [] a after = refl
slice_get-at (b ∷ before) a after = slice_get-at before a after

-- there is a question of this number
abbrev pub IsThere : List Ask → ℕ → Type 0
IsThere asks n = slice_get asks n ≡ None → ⊥

fitting_from : (sizes : IdSizes) (asks before rest : List Ask) (k : ℕ) → asks ≡ before ++ rest → k ≡ length before
    → AllByRecursion (IsThere asks) (fitting sizes k rest)
fitting_from sizes asks before [] k parts place = tt
fitting_from sizes asks before (ask ∷ rest) k parts place = by (is_fit sizes ask.question) there
    (fitting_from sizes asks (before ++ ask ∷ []) rest (k + 1)
    (parts ∙ sym (append_assoc before (ask ∷ []) rest))
    (omega (arith, place, length-append before (ask ∷ []))))
  where
    there : IsThere asks k
    there none =
        let some = slice_get-at before ask rest in
        let here : slice_get asks k ≡ Some ask = ap (λ (l : List Ask). slice_get l k) parts
        ∙ (ap (λ n. slice_get (before ++ ask ∷ rest) n) place ∙ some) in
        absurd cc

    by : (b : Bool) → IsThere asks k → AllByRecursion (IsThere asks) (fitting sizes (k + 1) rest)
        → AllByRecursion (IsThere asks)
        (cond b (k ∷ fitting sizes (k + 1) rest) (fitting sizes (k + 1) rest))
    by true here more = (here, more)
    by false here more = more

-- each question that is fit is there
pub fitting_there : (sizes : IdSizes) (asks : List Ask) → AllByRecursion (IsThere asks) (fitting sizes 0 asks)
fitting_there sizes asks = fitting_from sizes asks [] asks 0 refl refl

-- what holds of each holds of one behind others
pub one_of : (P : ℕ → Type 0) (before : List ℕ) (n : ℕ) (after : List ℕ) → AllByRecursion P (before ++ n ∷ after) → P n
one_of P [] n after all = all.0
one_of P (m ∷ before) n after all = one_of P before n after all.1

-- Places --------------------------------------------------------------------------------------------------------------

-- the place of an element is within the list
pub within : {A : Type 0} (xs : List A) (n : ℕ) (a : A) → slice_get xs n ≡ Some a → n < length xs
within [] n a is = absurd cc
within (x ∷ xs) zero a is = omega arith
within (x ∷ xs) (suc n) a is = let less = within xs n a is in omega (arith, less)

-- an element that was set
pub set_here : {A : Type 0} (xs : List A) (n : ℕ) (a : A) → n < length xs → slice_get (slice_set xs n a) n ≡ Some a
set_here [] n a less = absurd (omega (arith, less))
set_here (x ∷ xs) zero a less = refl
set_here (x ∷ xs) (suc n) a less = set_here xs n a (omega (arith, less))

-- and the others
pub set_there : {A : Type 0} (xs : List A) (n k : ℕ) (a : A) → (n ≡ k → ⊥)
    → slice_get (slice_set xs n a) k ≡ slice_get xs k
set_there [] n k a differ = refl
set_there (x ∷ xs) zero zero a differ = absurd (differ refl)
set_there (x ∷ xs) zero (suc k) a differ = refl
set_there (x ∷ xs) (suc n) zero a differ = refl
set_there (x ∷ xs) (suc n) (suc k) a differ = set_there xs n k a (λ e. differ (ap suc e))

-- an element of what is made of each
pub slice_get-map : {A B : Type 0} (f : A → B) (xs : List A) (n : ℕ) (a : A) → slice_get xs n ≡ Some a
    → slice_get (map f xs) n ≡ Some (f a)
slice_get-map f [] n a is = absurd cc
slice_get-map f (x ∷ xs) zero a is = let same : x ≡ a = cc in ap (λ y. Some (f y)) same
slice_get-map f (x ∷ xs) (suc n) a is = slice_get-map f xs n a is

-- Order ---------------------------------------------------------------------------------------------------------------

-- the numbers of the questions that are fit begin no earlier than the first
no_earlier : (sizes : IdSizes) (n k : ℕ) (asks : List Ask) → n < k
    → AllByRecursion (λ m. n < m) (fitting sizes k asks)
no_earlier sizes n k [] less = tt
no_earlier sizes n k (ask ∷ asks) less =
    by (is_fit sizes ask.question) (no_earlier sizes n (k + 1) asks (omega (arith, less)))
  where
    by : (b : Bool) → AllByRecursion (λ m. n < m) (fitting sizes (k + 1) asks)
        → AllByRecursion (λ m. n < m) (cond b (k ∷ fitting sizes (k + 1) asks) (fitting sizes (k + 1) asks))
    by true others = (less, others)
    by false others = others

pub fitting_ascends : (sizes : IdSizes) (k : ℕ) (asks : List Ask) → Ascend (fitting sizes k asks)
fitting_ascends sizes k [] = tt
fitting_ascends sizes k (ask ∷ asks) =
    by (is_fit sizes ask.question) (no_earlier sizes k (k + 1) asks (omega arith)) (fitting_ascends sizes (k + 1) asks)
  where
    by : (b : Bool) → AllByRecursion (λ m. k < m) (fitting sizes (k + 1) asks) → Ascend (fitting sizes (k + 1) asks)
        → Ascend (cond b (k ∷ fitting sizes (k + 1) asks) (fitting sizes (k + 1) asks))
    by true first others = (first, others)
    by false first others = others

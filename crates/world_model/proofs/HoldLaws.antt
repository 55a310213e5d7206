use Rattle.std.proofs.Common.{◌≡◌, ℕ, ◌+◌, Bool, true, false, cond, List, [], ◌∷◌, ◌++◌, map}
use Rattle.std.proofs.Common.{refl}
use Rattle.std.proofs.Common.{sym, subst, arith, Option, Some, None, nat_eq, nat_le}
use Rattle.std.specs.Prelude.{filter}
use Rattle.std.specs.Cmp.{nat_eq_equiv}
use Rattle.std.specs.List.{AllByRecursion, IsDistinct, list_any}
use Rattle.std.proofs.lemmas.List.{map-append}
use Rattle.std.proofs.lemmas.Map.Keys.{IsDistinct-push, IsDistinct-head, IsDistinct-tail, IsDistinct-cons}
use Rattle.world_model.specs.declared.rows.Installed.{Installed}
use Rattle.world_model.specs.Requests.{behind_id, is_in_use, free_from}
use Rattle.world_model.specs.Sound.{IsRequest, IsHold}
use Rattle.world_model.proofs.FilterLaws.{all_left, distinct_left}

abbrev number_of : Installed → ℕ
number_of row = row.request

-- Fewer requests ------------------------------------------------------------------------------------------------------

-- fewer requests
pub hold_left : (passes : Installed → Bool) (rows : List Installed) (next count : ℕ) → IsHold rows next count
    → IsHold (filter passes rows) next count
hold_left passes rows next count h = record {
  distinct = distinct_left number_of passes rows h.distinct;
  numbers = all_left (λ row. IsRequest row.request) passes rows h.numbers;
  next_number = h.next_number;
  few = h.few;
}

-- A new one ----------------------------------------------------------------------------------------------------------

pub behind_is_number : (n : ℕ) → IsRequest n → IsRequest (behind_id n)
behind_is_number n h = by (nat_le 2147483647 n) refl where
  by : (b : Bool) → nat_le 2147483647 n ≡ b → IsRequest (cond b 1 (n + 1))
  by true e = (omega arith, omega arith)
  by false e = (omega arith, grind arith)

-- a number that was found is free, and a request may have it
pub record IsFree (requests : List Installed) (n : ℕ) : Type 0 where
  pub free : is_in_use requests n ≡ false
  pub number : IsRequest n

free_at : (requests : List Installed) (id n : ℕ) (used : Bool) → is_in_use requests id ≡ used → IsRequest id
    → (behind : Option ℕ) → (behind ≡ Some n → IsFree requests n) → cond used behind (Some id) ≡ Some n
    → IsFree requests n
free_at requests id n true e is behind later h = later h
free_at requests id n false e is behind later h =
    let same : id ≡ n = cc in
    subst (IsFree requests) same (record { free = e; number = is })

pub free_found : (attempts requests : List Installed) (id n : ℕ) → IsRequest id
    → free_from attempts requests id ≡ Some n → IsFree requests n
free_found [] requests id n is h =
    free_at requests id n (is_in_use requests id) refl is None (λ e. absurd cc) h
free_found (attempt ∷ attempts) requests id n is h =
    free_at requests id n (is_in_use requests id) refl is (free_from attempts requests (behind_id id))
    (free_found attempts requests (behind_id id) n (behind_is_number id is)) h

not_among : (n : ℕ) (rows : List Installed) → is_in_use rows n ≡ false
    → list_any (nat_eq n) (map number_of rows) ≡ false
not_among n [] h = refl
not_among n (row ∷ rows) h = grind (arith, not_among n rows)

pub all_push : {A : Type 0} (P : A → Type 0) (xs : List A) (x : A) → AllByRecursion P xs → P x
    → AllByRecursion P (xs ++ x ∷ [])
all_push P [] x h p = (p, tt)
all_push P (y ∷ ys) x h p = (h.0, all_push P ys x h.1 p)

-- one request more, under a free number
pub hold_with : (rows : List Installed) (row : Installed) (next count : ℕ) → IsHold rows next count
    → IsFree rows row.request → IsHold (rows ++ row ∷ []) (behind_id row.request) count
hold_with rows row next count h is = record {
  distinct = subst (IsDistinct nat_eq) (sym (map-append number_of rows (row ∷ [])))
      (IsDistinct-push nat_eq_equiv (map number_of rows) row.request h.distinct (not_among row.request rows is.free));
  numbers = all_push (λ r. IsRequest r.request) rows row h.numbers is.number;
  next_number = behind_is_number row.request is.number;
  few = h.few;
}

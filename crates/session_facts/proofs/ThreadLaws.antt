-- The set of threads that were told, as the list that the machine has.
use Rattle.std.proofs.Common.{◌≡◌, ◌≤◌, ℕ, suc, ◌+◌, ◌==◌, ◌||◌, Bool, true, false, cond, not, List, [], ◌∷◌, ◌++◌}
use Rattle.std.proofs.Common.{length, position, nat_lt, Some, None, refl, ap, ◌∙◌, arith}
use Rattle.std.specs.List.{list_any, position_or_len}
use Rattle.indexmap.specs.IndexSet.{insert_key}
use Rattle.jdwp_values.specs.declared.id.ThreadId.{ThreadId}
use Rattle.machine_model.specs.Telling.{is_among, number_among, with_thread}

abbrev same : ThreadId → ThreadId → Bool
same a b = a.0 == b.0

back : (a b : ℕ) → (a == b) ≡ (b == a)
back a b = grind arith

among : (threads : List ThreadId) (thread : ThreadId) → list_any (same thread) threads ≡ is_among threads thread
among [] thread = refl
among (first ∷ threads) thread =
    by_test (thread.0 == first.0) (first.0 == thread.0) (back thread.0 first.0) (among threads thread)
  where
    by_test : (one other : Bool) → one ≡ other → list_any (same thread) threads ≡ is_among threads thread
        → (one || list_any (same thread) threads) ≡ cond other true (is_among threads thread)
    by_test one other is rest = grind (arith, is, rest)

-- a thread is told, behind those that were, once
pub inserted : (threads : List ThreadId) (thread : ThreadId)
    → insert_key same threads thread ≡ with_thread threads thread
inserted threads thread = ap (λ (b : Bool). cond b threads (threads ++ thread ∷ [])) (among threads thread)

-- threads are numbered by their places, and the next one behind them
number_is : (threads : List ThreadId) (thread : ThreadId)
    → number_among threads thread ≡ position_or_len (same thread) threads + 1
number_is [] thread = refl
number_is (first ∷ threads) thread =
    by_test (thread.0 == first.0) (first.0 == thread.0) (back thread.0 first.0) (number_is threads thread)
  where
    by_test : (one other : Bool) → one ≡ other → number_among threads thread
        ≡ position_or_len (same thread) threads + 1
        → cond other 1 (number_among threads thread + 1)
        ≡ cond (not one) (1 + position_or_len (same thread) threads) 0 + 1
    by_test true true is rest = refl
    by_test false false is rest = omega (arith, rest)
    by_test true false is rest = cc
    by_test false true is rest = cc

within : (threads : List ThreadId) (thread : ThreadId) → position_or_len (same thread) threads ≤ length threads
within [] thread = omega arith
within (first ∷ threads) thread = by_test (thread.0 == first.0) (within threads thread)
  where
    by_test : (one : Bool) → position_or_len (same thread) threads ≤ length threads
        → cond (not one) (1 + position_or_len (same thread) threads) 0 ≤ suc (length threads)
    by_test true rest = omega arith
    by_test false rest = omega (arith, rest)

pub numbered_at : (threads : List ThreadId) (thread : ThreadId) (place : ℕ)
    → position (same thread) threads ≡ Some place → number_among threads thread ≡ place + 1
numbered_at threads thread place is = by_test (nat_lt (position_or_len (same thread) threads) (length threads)) is
  where
    by_test : (lower : Bool) → cond lower (Some (position_or_len (same thread) threads)) None ≡ Some place
        → number_among threads thread ≡ place + 1
    by_test true is =
        let same_place : position_or_len (same thread) threads ≡ place = cc in
        number_is threads thread ∙ ap (λ n. n + 1) same_place
    by_test false is = cc

pub numbered_next : (threads : List ThreadId) (thread : ThreadId) → position (same thread) threads ≡ None
    → number_among threads thread ≡ length threads + 1
numbered_next threads thread is =
    by_test (nat_lt (position_or_len (same thread) threads) (length threads)) refl is
  where
    by_test : (lower : Bool) → nat_lt (position_or_len (same thread) threads) (length threads) ≡ lower
        → cond lower (Some (position_or_len (same thread) threads)) None ≡ None
        → number_among threads thread ≡ length threads + 1
    by_test true low is = cc
    by_test false low is =
        let number = number_is threads thread in
        let most = within threads thread in
        grind (arith, number, most, low)

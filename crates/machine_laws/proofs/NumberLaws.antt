-- The numbers of threads.
use Rattle.std.proofs.Common.{◌≡◌, ◌≤◌, ◌<◌, ◌+◌, ◌==◌, ℕ, Bool, true, false, cond, List, [], ◌∷◌, ◌++◌, length, map}
use Rattle.std.proofs.Common.{refl, sym, ap, subst, ◌∙◌, append_assoc, append-nil, length-append, arith}
use Rattle.std.proofs.lemmas.Bool.{eqb-true}
use Rattle.machine_model.specs.Knowing.{AreInOrder, AreNumberedOnce, HasNumber, thread_number}
use Rattle.machine_model.specs.Telling.{is_among, number_among, thread_told, with_thread, with_threads}
use Rattle.machine_steps.specs.Names.{NamedThread, ThreadId}

-- Among the threads ---------------------------------------------------------------------------------------------------

pub same_id : (thread : ThreadId) → (thread.0 == thread.0) ≡ true
same_id thread = grind arith

pub one_of_id : {one other : ThreadId} → one.0 ≡ other.0 → one ≡ other
one_of_id {one} {other} is = let thread_of : ℕ → ThreadId = λ n. record { 0 = n } in ap thread_of is

among_on : (threads more : List ThreadId) (thread : ThreadId) → is_among threads thread ≡ true
    → is_among (threads ++ more) thread ≡ true
among_on [] more thread is = cc
among_on (first ∷ threads) more thread is = grind (arith, is, among_on threads more thread)

-- its number stays
number_stays : (threads more : List ThreadId) (thread : ThreadId) → is_among threads thread ≡ true
    → number_among (threads ++ more) thread ≡ number_among threads thread
number_stays [] more thread is = cc
number_stays (first ∷ threads) more thread is = grind (arith, is, number_stays threads more thread)

among_of : (before after : List ThreadId) (thread : ThreadId) → is_among (before ++ thread ∷ after) thread ≡ true
among_of [] after thread = rw (same_id thread) refl
among_of (first ∷ before) after thread = grind (arith, among_of before after thread)

-- one that is not among them has the next number
number_last : (threads : List ThreadId) (thread : ThreadId) → is_among threads thread ≡ false
    → number_among (threads ++ thread ∷ []) thread ≡ length threads + 1
number_last [] thread is = rw (same_id thread) refl
number_last (first ∷ threads) thread is = grind (arith, is, number_last threads thread)

number_at_most : (threads : List ThreadId) (thread : ThreadId) → is_among threads thread ≡ true
    → (0 < number_among threads thread) × (number_among threads thread ≤ length threads)
number_at_most [] thread is = cc
number_at_most (first ∷ threads) thread is =
    by_first (first.0 == thread.0) is (number_at_most threads thread)
  where
    by_first : (same : Bool) → cond same true (is_among threads thread) ≡ true
        → (is_among threads thread ≡ true
        → (0 < number_among threads thread) × (number_among threads thread ≤ length threads))
        → (0 < cond same 1 (number_among threads thread + 1))
        × (cond same 1 (number_among threads thread + 1) ≤ length (first ∷ threads))
    by_first true is rest = (omega arith, omega arith)
    by_first false is rest = let (some, most) = rest is in (omega arith, omega arith)

-- Once each -----------------------------------------------------------------------------------------------------------

-- none is there twice
abbrev pub are_distinct : List ThreadId → Bool
are_distinct [] = true
are_distinct (thread ∷ threads) = cond (is_among threads thread) false (are_distinct threads)

among_more : (threads : List ThreadId) (last thread : ThreadId) → is_among threads thread ≡ false
    → (last.0 == thread.0) ≡ false → is_among (threads ++ last ∷ []) thread ≡ false
among_more [] last thread none other = rw other refl
among_more (first ∷ threads) last thread none other = grind (arith, none, other, among_more threads last thread)

distinct_last : (threads : List ThreadId) (last : ThreadId) → are_distinct threads ≡ true
    → is_among threads last ≡ false
    → are_distinct (threads ++ last ∷ []) ≡ true
distinct_last [] last is none = refl
distinct_last (first ∷ threads) last is none =
    rw (among_more threads last first (grind (arith, is)) (grind (arith, none)))
    (distinct_last threads last (grind (arith, is)) (grind (arith, none)))

distinct_one : (threads : List ThreadId) (thread : ThreadId) → are_distinct threads ≡ true
    → are_distinct (with_thread threads thread) ≡ true
distinct_one threads thread is = by_among (is_among threads thread) refl
  where
    by_among : (among : Bool) → is_among threads thread ≡ among
        → are_distinct (cond among threads (threads ++ thread ∷ [])) ≡ true
    by_among true there = is
    by_among false there = distinct_last threads thread is there

pub distinct_with : (threads : List ThreadId) (named : List NamedThread) → are_distinct threads ≡ true
    → are_distinct (with_threads threads named) ≡ true
distinct_with threads [] is = is
distinct_with threads (first ∷ named) is =
    distinct_with (with_thread threads first.thread) named (distinct_one threads first.thread is)

-- so a thread's number is the machine's
exact : (before after : List ThreadId) (thread : ThreadId) → are_distinct (before ++ thread ∷ after) ≡ true
    → length before + 1 ≡ number_among (before ++ thread ∷ after) thread
exact [] after thread is = rw (same_id thread) (omega arith)
exact (first ∷ before) after thread is =
    by_first (first.0 == thread.0) refl (exact before after thread (grind (arith, is)))
  where
    by_first : (same : Bool) → (first.0 == thread.0) ≡ same
        → length before + 1 ≡ number_among (before ++ thread ∷ after) thread
        → length (first ∷ before) + 1 ≡ cond same 1 (number_among (before ++ thread ∷ after) thread + 1)
    by_first true same rest =
        let it : first ≡ thread = one_of_id (eqb-true first.0 thread.0 same) in
        let twice : is_among (before ++ thread ∷ after) first ≡ true =
        rw it (among_of before after thread) in
        let no : false ≡ true = ap (λ (there : Bool). cond there false (are_distinct (before ++ thread
        ∷ after))) (sym twice) ∙ is
        in cc
    by_first false same rest = omega arith

exact_in : {threads : List ThreadId} → are_distinct threads ≡ true → (thread : ThreadId) (number : ℕ)
    → HasNumber threads thread number → number ≡ number_among threads thread
exact_in distinct thread number h =
    h.number_is ∙ exact h.before h.after thread (ap are_distinct (sym h.threads_are) ∙ distinct)
    ∙ ap (λ (all : List ThreadId). number_among all thread) (sym h.threads_are)

-- a place has one thread
one_place : (before earlier after later : List ThreadId) (one other : ThreadId)
    → before ++ one ∷ after ≡ earlier ++ other ∷ later → length before ≡ length earlier → one ≡ other
one_place [] [] after later one other is same = cc
one_place (first ∷ before) (second ∷ earlier) after later one other is same =
    let rest : before ++ one ∷ after ≡ earlier ++ other ∷ later = cc in
    let shorter : length before ≡ length earlier = omega arith in
    one_place before earlier after later one other rest shorter
one_place _ _ after later one other is same = absurd (omega arith)

pub numbered_once : (threads : List ThreadId) → are_distinct threads ≡ true → AreNumberedOnce threads
numbered_once threads distinct = record {
  one_number = λ {one} {other} {first} {second} h k same. exact_in distinct one first h
      ∙ ap (λ (t : ThreadId). number_among threads t) (one_of_id same) ∙ sym (exact_in distinct other second k);
  one_thread = λ {one} {other} {first} {second} h k same.
      let is = h.number_is in
      let also = k.number_is in
      let places : length h.before ≡ length k.before = omega arith in
      ap (λ (t : ThreadId). t.0)
      (one_place h.before k.before h.after k.after one other (sym h.threads_are ∙ k.threads_are) places);
}

-- Threads that are told -----------------------------------------------------------------------------------------------

-- threads are told behind those that were told
grows_one : (threads : List ThreadId) (thread : ThreadId)
    → (more : List ThreadId) × (with_thread threads thread ≡ threads ++ more)
grows_one threads thread = by_among (is_among threads thread)
  where
    by_among : (among : Bool)
        → (more : List ThreadId) × (cond among threads (threads ++ thread ∷ []) ≡ threads ++ more)
    by_among true = ([], sym (append-nil threads))
    by_among false = (thread ∷ [], refl)

pub grows : (threads : List ThreadId) (named : List NamedThread)
    → (more : List ThreadId) × (with_threads threads named ≡ threads ++ more)
grows threads [] = ([], sym (append-nil threads))
grows threads (first ∷ named) =
    let one = grows_one threads first.thread in
    let others = grows (with_thread threads first.thread) named in (
      one.0 ++ others.0,
      others.1 ∙ ap (λ (all : List ThreadId). all ++ others.0) one.1 ∙ append_assoc threads one.0 others.0,
    )

pub among_one : (threads : List ThreadId) (thread : ThreadId) → is_among (with_thread threads thread) thread ≡ true
among_one threads thread = by_among (is_among threads thread) refl
  where
    by_among : (among : Bool) → is_among threads thread ≡ among
        → is_among (cond among threads (threads ++ thread ∷ [])) thread ≡ true
    by_among true is = is
    by_among false is = among_of threads [] thread

in_order_one : {numbers : List ℕ} (threads : List ThreadId) (thread : ThreadId) → AreInOrder numbers (length threads)
    → AreInOrder (numbers ++ number_among (with_thread threads thread) thread
    ∷ []) (length (with_thread threads thread))
in_order_one {numbers} threads thread h = by_among (is_among threads thread) refl
  where
    by_among : (among : Bool) → is_among threads thread ≡ among
        → AreInOrder (numbers ++ number_among (cond among threads (threads ++ thread ∷ [])) thread ∷ [])
        (length (cond among threads (threads ++ thread ∷ [])))
    by_among true is = let bounds = number_at_most threads thread is in AreInOrder.again h bounds.0 bounds.1
    by_among false is =
        let long : length (threads ++ thread ∷ []) ≡ length threads + 1 = length-append threads (thread ∷ []) in
        rw (number_last threads thread is, long) (AreInOrder.one_new h)

in_order_from : (numbers : List ℕ) (threads : List ThreadId) (named : List NamedThread) (all : List ThreadId)
    → with_threads threads named ≡ all → AreInOrder numbers (length threads)
    → AreInOrder (numbers ++ map thread_number (map (thread_told all) named)) (length all)
in_order_from numbers threads [] all is h = rw (sym is, append-nil numbers) h
in_order_from numbers threads (first ∷ named) all is h =
    let one : List ThreadId = with_thread threads first.thread in
    let more = grows one named in
    let stays : number_among all first.thread ≡ number_among one first.thread =
    ap (λ (now : List ThreadId). number_among now first.thread) (sym is ∙ more.1)
    ∙ number_stays one more.0 first.thread (among_one threads first.thread) in
    let now : AreInOrder (numbers ++ number_among all first.thread ∷ []) (length one) =
    rw stays (in_order_one threads first.thread h) in
    subst (λ (told : List ℕ). AreInOrder told (length all))
    (append_assoc numbers (number_among all first.thread ∷ []) (map thread_number (map (thread_told all) named)))
    (in_order_from (numbers ++ number_among all first.thread ∷ []) one named all is now)

-- new threads have the next numbers
pub in_order_with : (numbers : List ℕ) (threads : List ThreadId) (named : List NamedThread)
    → AreInOrder numbers (length threads)
    → AreInOrder (numbers ++ map thread_number (map (thread_told (with_threads threads named)) named))
    (length (with_threads threads named))
in_order_with numbers threads named h = in_order_from numbers threads named (with_threads threads named) refl h

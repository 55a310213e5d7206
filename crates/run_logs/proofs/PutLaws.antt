-- What an entry more makes of the runs of a log.
use Rattle.std.proofs.Common.{◌≡◌, ℕ, ◌+◌, zero, suc, ◌-◌, ◌<◌, ◌≤◌, List, [], ◌∷◌, ◌++◌, length, Option, Some, None}
use Rattle.std.proofs.Common.{set, get_or, refl, sym, ap, subst, ◌∙◌, arith}
use Rattle.wire_core.specs.declared.outside.Entry.{Entry}
use Rattle.wire_core.specs.declared.outside.Entry.TheVariants.{In, Out, Shut, Failed, Quiet}
use Rattle.run_logs.specs.declared.run.Run.{Run}
use Rattle.run_logs.specs.declared.run.Run.TheVariants.{One, Quiets}
use Rattle.run_logs.specs.Runs.{entries_of, quiets_as, quiets_of, most_quiets, count_of, last_count, IsRun}
use Rattle.run_logs.specs.Runs.{AreRuns, Takes, CanTake, FollowsQuiet, places}
use Rattle.run_logs.proofs.RunLaws.{entries_with_one, entries_with_quiet, entries_with_count, quiets_of-append}
use Rattle.run_logs.proofs.RunLaws.{runs_with_one, runs_with_quiet, runs_with_count, not_quiet, quiets_counted}
use Rattle.run_logs.proofs.RunLaws.{ends_alike}

-- what the last run is of waits
last_at : (before : Option ℕ) (runs : List Run) (at : ℕ) (run : Run) → at + 1 ≡ length runs → run ≡ get_or runs at run
    → last_count before runs ≡ count_of run
last_at before [] at run h e = absurd (omega arith)
last_at before (r ∷ []) zero run h e = ap count_of (sym e)
last_at before (r ∷ []) (suc at) run h e = absurd (omega arith)
last_at before (r ∷ s ∷ runs) zero run h e = absurd (omega arith)
last_at before (r ∷ s ∷ runs) (suc at) run h e = last_at (count_of r) (s ∷ runs) at run (omega arith) e

pub last_is : (runs : List Run) (run : Run) → 0 < length runs → run ≡ get_or runs (length runs - 1) run
    → last_count None runs ≡ count_of run
last_is runs run h e = last_at None runs (length runs - 1) run (omega arith) e

-- the last run is of waits, and is of one more
record CountsOne (old new : List Run) (n : ℕ) : Type 0 where
  pub front : List Run
  pub was : old ≡ front ++ Quiets n ∷ []
  pub is : new ≡ front ++ Quiets (n + 1) ∷ []

counts_behind : (run : Run) (old new : List Run) (n : ℕ) → CountsOne old new n → CountsOne (run ∷ old) (run ∷ new) n
counts_behind run old new n c = record {
  front = run ∷ c.front;
  was = ap (λ (l : List Run). run ∷ l) c.was;
  is = ap (λ (l : List Run). run ∷ l) c.is;
}

counts_at : (before : Option ℕ) (run : Run) (runs : List Run) (at n : ℕ) → at ≡ length runs
    → last_count before (run ∷ runs) ≡ Some n → CountsOne (run ∷ runs) (set (run ∷ runs) at (Quiets (n + 1))) n
counts_at before (One entry) [] zero n h e = absurd cc
counts_at before (Quiets m) [] zero n h e =
    let same : m ≡ n = cc in
    record { front = []; was = ap (λ (k : ℕ). Quiets k ∷ []) same; is = refl }
counts_at before run [] (suc at) n h e = absurd (omega arith)
counts_at before run (r ∷ runs) zero n h e = absurd (omega arith)
counts_at before run (r ∷ runs) (suc at) n h e =
    counts_behind run (r ∷ runs) (set (r ∷ runs) at (Quiets (n + 1))) n
    (counts_at (count_of run) r runs at n (omega arith) e)

counts_last : (runs : List Run) (n : ℕ) → last_count None runs ≡ Some n
    → CountsOne runs (set runs (length runs - 1) (Quiets (n + 1))) n
counts_last [] n e = absurd cc
counts_last (run ∷ runs) n e = counts_at None run runs (length (run ∷ runs) - 1) n (omega arith) e

-- it is of no more waits than all
pub count_fits : (runs : List Run) (n : ℕ) → last_count None runs ≡ Some n → n ≤ quiets_of runs
count_fits runs n e =
    let c = counts_last runs n e in
    rw c.was (omega (arith, quiets_of-append c.front (Quiets n ∷ [])))

pub takes_one : (runs : List Run) (entry : Entry) → AreRuns runs → IsRun (One entry)
    → Takes runs (runs ++ One entry ∷ []) entry
takes_one runs entry are is = record {
  entries = entries_with_one runs entry;
  are = runs_with_one runs entry are is;
  quiets = rw (quiets_of-append runs (One entry ∷ []), not_quiet entry is) (omega arith);
}

pub takes_quiet : (runs : List Run) → AreRuns runs → last_count None runs ≡ None → quiets_of runs < most_quiets
    → Takes runs (runs ++ Quiets 1 ∷ []) Quiet
takes_quiet runs are last few = record {
  entries = entries_with_quiet runs;
  are = runs_with_quiet runs are last few;
  quiets = quiets_of-append runs (Quiets 1 ∷ []);
}

takes_count : (front : List Run) (n : ℕ) → AreRuns (front ++ Quiets n ∷ [])
    → quiets_of (front ++ Quiets n ∷ []) < most_quiets
    → Takes (front ++ Quiets n ∷ []) (front ++ Quiets (n + 1) ∷ []) Quiet
takes_count front n are few = record {
  entries = entries_with_count front n;
  are = runs_with_count front n are few;
  quiets = omega (arith, quiets_of-append front (Quiets n ∷ []), quiets_of-append front (Quiets (n + 1) ∷ []));
}

pub takes_counted : (runs : List Run) (n : ℕ) → last_count None runs ≡ Some n → AreRuns runs
    → quiets_of runs < most_quiets
    → Takes runs (set runs (length runs - 1) (Quiets (n + 1))) Quiet
takes_counted runs n e are few =
    let c = counts_last runs n e in
    let takes = takes_count c.front n (rw c.was at are) (rw c.was at few) in
    rw c.is (subst (λ (l : List Run). Takes l (c.front ++ Quiets (n + 1) ∷ []) Quiet) (sym c.was) takes)

-- an entry stands alone unless it is a wait
pub stands_alone : (entry : Entry) → (entry ≡ Quiet → ⊥) → IsRun (One entry)
stands_alone (In side bytes) is = tt
stands_alone (Out side bytes) is = tt
stands_alone (Shut side) is = tt
stands_alone (Failed side) is = tt
stands_alone Quiet is = is refl

-- an entry that a log can take, by its runs
pub can_take : (entry : Entry) (runs : List Run) → AreRuns runs → CanTake entry (entries_of runs)
    → quiets_of runs + quiets_as entry ≤ most_quiets
can_take (In side bytes) runs are can = omega (arith, are.few)
can_take (Out side bytes) runs are can = omega (arith, are.few)
can_take (Shut side) runs are can = omega (arith, are.few)
can_take (Failed side) runs are can = omega (arith, are.few)
can_take Quiet runs are can = omega (arith, quiets_counted runs are.each)

pub taken : (entry : Entry) (runs : List Run) → AreRuns runs → quiets_of runs + quiets_as entry ≤ most_quiets
    → CanTake entry (entries_of runs)
taken (In side bytes) runs are few = tt
taken (Out side bytes) runs are few = tt
taken (Shut side) runs are few = tt
taken (Failed side) runs are few = tt
taken Quiet runs are few = omega (arith, quiets_counted runs are.each)

-- a wait behind another takes no place
pub no_place : (entry : Entry) (runs : List Run) → AreRuns runs → FollowsQuiet entry (entries_of runs)
    → places entry runs ≡ 0
no_place entry runs are follows = rw (follows.0, sym (ends_alike None runs are.each) ∙ follows.1) refl

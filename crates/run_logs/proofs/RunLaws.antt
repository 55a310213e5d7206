-- Runs of a log: what an entry more makes of them, and that a log has one list of them.
use Rattle.std.proofs.Common.{◌≡◌, ℕ, ◌+◌, zero, suc, ◌<◌, ◌≤◌, Bool, true, false, List, [], ◌∷◌, ◌++◌, refl}
use Rattle.std.proofs.Common.{sym, ap, subst, ◌∙◌, arith, append_assoc}
use Rattle.std.specs.Prelude.{replicate, Option, Some, None, is_some}
use Rattle.std.proofs.lemmas.List.{append-nil}
use Rattle.std.proofs.lemmas.Grind.{replicate_next}
use Rattle.wire_core.specs.declared.outside.Entry.{Entry}
use Rattle.wire_core.specs.declared.outside.Entry.TheVariants.{In, Out, Shut, Failed, Quiet}
use Rattle.run_logs.specs.declared.run.Run.{Run}
use Rattle.run_logs.specs.declared.run.Run.TheVariants.{One, Quiets}
use Rattle.run_logs.specs.Runs.{entries_in, entries_of, is_quiet, quiets_among, quiets_of, most_quiets, IsRun}
use Rattle.run_logs.specs.Runs.{EachIsRun, BeginsApart, AreApart, AreRuns, ends_in_quiet, last_count}

-- entries of runs

pub entries_of-append : (xs ys : List Run) → entries_of (xs ++ ys) ≡ entries_of xs ++ entries_of ys
entries_of-append [] ys = refl
entries_of-append (run ∷ xs) ys =
    ap (λ (l : List Entry). entries_in run ++ l) (entries_of-append xs ys)
    ∙ sym (append_assoc (entries_in run) (entries_of xs) (entries_of ys))

pub entries_of-one : (entry : Entry) → entries_of (One entry ∷ []) ≡ entry ∷ []
unfolding entries_in
entries_of-one entry = refl

pub entries_of-quiet : entries_of (Quiets 1 ∷ []) ≡ Quiet ∷ []
unfolding entries_in
entries_of-quiet = refl

pub entries_of-more : (n : ℕ) → entries_of (Quiets (n + 1) ∷ []) ≡ entries_of (Quiets n ∷ []) ++ Quiet ∷ []
unfolding entries_in
entries_of-more n =
    append-nil (replicate (n + 1) Quiet) ∙ replicate_next n Quiet
    ∙ ap (λ (l : List Entry). l ++ Quiet ∷ []) (sym (append-nil (replicate n Quiet)))

pub entries_with_one : (runs : List Run) (entry : Entry)
    → entries_of (runs ++ One entry ∷ []) ≡ entries_of runs ++ entry ∷ []
entries_with_one runs entry =
    entries_of-append runs (One entry ∷ [])
    ∙ ap (λ (l : List Entry). entries_of runs ++ l) (entries_of-one entry)

pub entries_with_quiet : (runs : List Run) → entries_of (runs ++ Quiets 1 ∷ []) ≡ entries_of runs ++ Quiet ∷ []
entries_with_quiet runs =
    entries_of-append runs (Quiets 1 ∷ [])
    ∙ ap (λ (l : List Entry). entries_of runs ++ l) entries_of-quiet

pub entries_with_count : (runs : List Run) (n : ℕ)
    → entries_of (runs ++ Quiets (n + 1) ∷ []) ≡ entries_of (runs ++ Quiets n ∷ []) ++ Quiet ∷ []
entries_with_count runs n =
    entries_of-append runs (Quiets (n + 1) ∷ [])
    ∙ ap (λ (l : List Entry). entries_of runs ++ l) (entries_of-more n)
    ∙ sym (append_assoc (entries_of runs) (entries_of (Quiets n ∷ [])) (Quiet ∷ []))
    ∙ ap (λ (l : List Entry). l ++ Quiet ∷ []) (sym (entries_of-append runs (Quiets n ∷ [])))

-- how many waits

pub quiets_of-append : (xs ys : List Run) → quiets_of (xs ++ ys) ≡ quiets_of xs + quiets_of ys
quiets_of-append [] ys = omega arith
quiets_of-append (One entry ∷ xs) ys = omega (arith, quiets_of-append xs ys)
quiets_of-append (Quiets n ∷ xs) ys = omega (arith, quiets_of-append xs ys)

quiets_among-quiets : (n : ℕ) (entries : List Entry)
    → quiets_among (replicate n Quiet ++ entries) ≡ n + quiets_among entries
quiets_among-quiets zero entries = omega arith
quiets_among-quiets (suc n) entries = omega (arith, quiets_among-quiets n entries)

-- how many waits an entry is that stands alone
pub not_quiet : (entry : Entry) → IsRun (One entry) → is_quiet entry ≡ false
not_quiet (In side bytes) is = refl
not_quiet (Out side bytes) is = refl
not_quiet (Shut side) is = refl
not_quiet (Failed side) is = refl
not_quiet Quiet is = absurd is

pub quiets_counted : (runs : List Run) → EachIsRun runs → quiets_among (entries_of runs) ≡ quiets_of runs
unfolding entries_in
quiets_counted [] each = refl
quiets_counted (One entry ∷ runs) each = rw (not_quiet entry each.0) (omega (arith, quiets_counted runs each.1))
quiets_counted (Quiets n ∷ runs) each =
    omega (arith, quiets_among-quiets n (entries_of runs), quiets_counted runs each.1)

-- whether a wait comes last

ends_after-quiets : (n : ℕ) (before : Bool) (entries : List Entry) → 0 < n
    → ends_in_quiet before (replicate n Quiet ++ entries) ≡ ends_in_quiet true entries
ends_after-quiets zero before entries h = absurd (omega arith)
ends_after-quiets (suc zero) before entries h = refl
ends_after-quiets (suc (suc n)) before entries h = ends_after-quiets (suc n) true entries (omega arith)

pub ends_alike : (before : Option ℕ) (runs : List Run) → EachIsRun runs
    → ends_in_quiet (is_some before) (entries_of runs) ≡ is_some (last_count before runs)
unfolding entries_in
ends_alike before [] each = refl
ends_alike before (One entry ∷ runs) each = rw (not_quiet entry each.0) (ends_alike None runs each.1)
ends_alike before (Quiets n ∷ runs) each =
    ends_after-quiets n (is_some before) (entries_of runs) each.0 ∙ ends_alike (Some n) runs each.1

-- a run more

each_with : (runs : List Run) (run : Run) → EachIsRun runs → IsRun run → EachIsRun (runs ++ run ∷ [])
each_with [] run each is = (is, tt)
each_with (r ∷ runs) run each is = (each.0, each_with runs run each.1 is)

each_before : (runs : List Run) (run : Run) → EachIsRun (runs ++ run ∷ []) → EachIsRun runs
each_before [] run each = tt
each_before (r ∷ runs) run each = (each.0, each_before runs run each.1)

begins_with_one : (runs : List Run) (entry : Entry) → BeginsApart runs → BeginsApart (runs ++ One entry ∷ [])
begins_with_one [] entry begins = tt
begins_with_one (One e ∷ runs) entry begins = tt
begins_with_one (Quiets n ∷ runs) entry begins = begins

apart_with_one : (runs : List Run) (entry : Entry) → AreApart runs → AreApart (runs ++ One entry ∷ [])
apart_with_one [] entry apart = tt
apart_with_one (One e ∷ runs) entry apart = apart_with_one runs entry apart
apart_with_one (Quiets n ∷ runs) entry apart = (begins_with_one runs entry apart.0, apart_with_one runs entry apart.1)

begins_with_quiet : (runs : List Run) (m n : ℕ) → BeginsApart runs → last_count (Some m) runs ≡ None
    → BeginsApart (runs ++ Quiets n ∷ [])
begins_with_quiet [] m n begins last = absurd cc
begins_with_quiet (One e ∷ runs) m n begins last = tt
begins_with_quiet (Quiets k ∷ runs) m n begins last = begins

apart_with_quiet : (before : Option ℕ) (runs : List Run) (n : ℕ) → AreApart runs → last_count before runs ≡ None
    → AreApart (runs ++ Quiets n ∷ [])
apart_with_quiet before [] n apart last = (tt, tt)
apart_with_quiet before (One e ∷ runs) n apart last = apart_with_quiet None runs n apart last
apart_with_quiet before (Quiets m ∷ runs) n apart last =
    (begins_with_quiet runs m n apart.0 last, apart_with_quiet (Some m) runs n apart.1 last)

begins_with_count : (runs : List Run) (m n : ℕ) → BeginsApart (runs ++ Quiets m ∷ [])
    → BeginsApart (runs ++ Quiets n ∷ [])
begins_with_count [] m n begins = begins
begins_with_count (One e ∷ runs) m n begins = tt
begins_with_count (Quiets k ∷ runs) m n begins = begins

apart_with_count : (runs : List Run) (m n : ℕ) → AreApart (runs ++ Quiets m ∷ []) → AreApart (runs ++ Quiets n ∷ [])
apart_with_count [] m n apart = (tt, tt)
apart_with_count (One e ∷ runs) m n apart = apart_with_count runs m n apart
apart_with_count (Quiets k ∷ runs) m n apart = (begins_with_count runs m n apart.0, apart_with_count runs m n apart.1)

pub runs_with_one : (runs : List Run) (entry : Entry) → AreRuns runs → IsRun (One entry)
    → AreRuns (runs ++ One entry ∷ [])
runs_with_one runs entry are is = record {
  each = each_with runs (One entry) are.each is;
  apart = apart_with_one runs entry are.apart;
  few = rw quiets_of-append (omega (arith, are.few));
}

pub runs_with_quiet : (runs : List Run) → AreRuns runs → last_count None runs ≡ None → quiets_of runs < most_quiets
    → AreRuns (runs ++ Quiets 1 ∷ [])
runs_with_quiet runs are last few = record {
  each = each_with runs (Quiets 1) are.each (omega arith);
  apart = apart_with_quiet None runs 1 are.apart last;
  few = rw quiets_of-append (omega arith);
}

pub runs_with_count : (runs : List Run) (n : ℕ) → AreRuns (runs ++ Quiets n ∷ [])
    → quiets_of (runs ++ Quiets n ∷ []) < most_quiets → AreRuns (runs ++ Quiets (n + 1) ∷ [])
runs_with_count runs n are few = record {
  each = each_with runs (Quiets (n + 1)) (each_before runs (Quiets n) are.each) (omega arith);
  apart = apart_with_count runs n (n + 1) are.apart;
  few = rw quiets_of-append (omega (arith, few, quiets_of-append runs (Quiets n ∷ [])));
}

-- a log has one list of runs

head_same : {X : Type 0} (x y : X) (xs ys : List X) → x ∷ xs ≡ y ∷ ys → x ≡ y
head_same x y xs ys e = cc

tail_same : {X : Type 0} (x y : X) (xs ys : List X) → x ∷ xs ≡ y ∷ ys → xs ≡ ys
tail_same x y xs ys e = cc

-- no wait comes first
abbrev BeginsOtherwise : List Entry → Type 0
BeginsOtherwise entries = (rest : List Entry) → entries ≡ Quiet ∷ rest → ⊥

one_is_no_quiet : (entry : Entry) → IsRun (One entry) → entry ≡ Quiet → ⊥
one_is_no_quiet entry is e = subst (λ (x : Entry). IsRun (One x)) e is

begins_otherwise : (runs : List Run) → EachIsRun runs → BeginsApart runs → BeginsOtherwise (entries_of runs)
unfolding entries_in
begins_otherwise [] each begins = λ rest e. absurd cc
begins_otherwise (One entry ∷ runs) each begins = λ rest e.
    one_is_no_quiet entry each.0 (head_same entry Quiet (entries_of runs) rest e)
begins_otherwise (Quiets n ∷ runs) each begins = absurd begins

-- as many waits in front, and the same behind them
same_quiets : (m n : ℕ) (xs ys : List Entry) → BeginsOtherwise xs → BeginsOtherwise ys
    → replicate m Quiet ++ xs ≡ replicate n Quiet ++ ys → (m ≡ n) × (xs ≡ ys)
same_quiets zero zero xs ys p q e = (refl, e)
same_quiets zero (suc n) xs ys p q e = absurd (p (replicate n Quiet ++ ys) e)
same_quiets (suc m) zero xs ys p q e = absurd (q (replicate m Quiet ++ xs) (sym e))
same_quiets (suc m) (suc n) xs ys p q e =
    let rest = tail_same Quiet Quiet (replicate m Quiet ++ xs) (replicate n Quiet ++ ys) e in
    let same = same_quiets m n xs ys p q rest in
    (ap suc same.0, same.1)

quiets_are_some : (n : ℕ) (entries : List Entry) → 0 < n → replicate n Quiet ++ entries ≡ [] → ⊥
quiets_are_some zero entries h e = omega arith
quiets_are_some (suc n) entries h e = cc

quiets_are_no_one : (n : ℕ) (entry : Entry) (xs ys : List Entry) → 0 < n → IsRun (One entry)
    → replicate n Quiet ++ xs ≡ entry ∷ ys → ⊥
quiets_are_no_one zero entry xs ys h is e = omega arith
quiets_are_no_one (suc n) entry xs ys h is e =
    one_is_no_quiet entry is (sym (head_same Quiet entry (replicate n Quiet ++ xs) ys e))

same_runs : (a b : List Run) → EachIsRun a → AreApart a → EachIsRun b → AreApart b → entries_of a ≡ entries_of b
    → a ≡ b
unfolding entries_in
same_runs [] [] p x q y e = refl
same_runs [] (One f ∷ b) p x q y e = absurd cc
same_runs [] (Quiets n ∷ b) p x q y e = absurd (quiets_are_some n (entries_of b) q.0 (sym e))
same_runs (One f ∷ a) [] p x q y e = absurd cc
same_runs (Quiets m ∷ a) [] p x q y e = absurd (quiets_are_some m (entries_of a) p.0 e)
same_runs (One f ∷ a) (One g ∷ b) p x q y e =
    let first : f ≡ g = head_same f g (entries_of a) (entries_of b) e in
    let rest : a ≡ b = same_runs a b p.1 x q.1 y (tail_same f g (entries_of a) (entries_of b) e) in
    cc
same_runs (One f ∷ a) (Quiets n ∷ b) p x q y e =
    absurd (quiets_are_no_one n f (entries_of b) (entries_of a) q.0 p.0 (sym e))
same_runs (Quiets m ∷ a) (One g ∷ b) p x q y e =
    absurd (quiets_are_no_one m g (entries_of a) (entries_of b) p.0 q.0 e)
same_runs (Quiets m ∷ a) (Quiets n ∷ b) p x q y e =
    let behind_a = begins_otherwise a p.1 x.0 in
    let behind_b = begins_otherwise b q.1 y.0 in
    let same = same_quiets m n (entries_of a) (entries_of b) behind_a behind_b e in
    let first : m ≡ n = same.0 in
    let rest : a ≡ b = same_runs a b p.1 x.1 q.1 y.1 same.1 in
    cc

pub runs_are_one : (a b : List Run) → entries_of a ≡ entries_of b → AreRuns a → AreRuns b → a ≡ b
runs_are_one a b e p q = same_runs a b p.each p.apart q.each q.apart e

-- a log has runs

record RunsOf (entries : List Entry) : Type 0 where
  pub runs : List Run
  pub each : EachIsRun runs
  pub apart : AreApart runs
  pub are : entries_of runs ≡ entries

-- a wait in front of runs, and any other entry
quiet_before : (entries : List Entry) (runs : List Run) → EachIsRun runs → AreApart runs → entries_of runs ≡ entries
    → RunsOf (Quiet ∷ entries)
unfolding entries_in
quiet_before entries [] each apart are = record {
  runs = Quiets 1 ∷ [];
  each = (omega arith, tt);
  apart = (tt, tt);
  are = ap (λ (l : List Entry). Quiet ∷ l) are;
}
quiet_before entries (One entry ∷ runs) each apart are = record {
  runs = Quiets 1 ∷ One entry ∷ runs;
  each = (omega arith, each);
  apart = (tt, apart);
  are = ap (λ (l : List Entry). Quiet ∷ l) are;
}
quiet_before entries (Quiets n ∷ runs) each apart are = record {
  runs = Quiets (suc n) ∷ runs;
  each = (omega arith, each.1);
  apart = apart;
  are = ap (λ (l : List Entry). Quiet ∷ l) are;
}

one_before : (entry : Entry) (entries : List Entry) → IsRun (One entry) → RunsOf entries → RunsOf (entry ∷ entries)
unfolding entries_in
one_before entry entries is behind = record {
  runs = One entry ∷ behind.runs;
  each = (is, behind.each);
  apart = behind.apart;
  are = ap (λ (l : List Entry). entry ∷ l) behind.are;
}

runs_for : (entries : List Entry) → RunsOf entries
runs_for [] = record { runs = []; each = tt; apart = tt; are = refl }
runs_for (In side bytes ∷ entries) = one_before (In side bytes) entries tt (runs_for entries)
runs_for (Out side bytes ∷ entries) = one_before (Out side bytes) entries tt (runs_for entries)
runs_for (Shut side ∷ entries) = one_before (Shut side) entries tt (runs_for entries)
runs_for (Failed side ∷ entries) = one_before (Failed side) entries tt (runs_for entries)
runs_for (Quiet ∷ entries) =
    let behind = runs_for entries in
    quiet_before entries behind.runs behind.each behind.apart behind.are

pub runs_there : (entries : List Entry) → quiets_among entries ≤ most_quiets
    → (runs : List Run) × (AreRuns runs × (entries_of runs ≡ entries))
runs_there entries few =
    let made = runs_for entries in
    let count : quiets_of made.runs ≡ quiets_among entries =
    sym (quiets_counted made.runs made.each) ∙ ap quiets_among made.are in
    (made.runs, (record { each = made.each; apart = made.apart; few = omega arith }, made.are))

-- What is held behind a history, by induction over it.
use Rattle.std.proofs.Common.{◌≡◌, ◌+◌, Bool, cond, List, [], ◌∷◌, refl, arith}
use Rattle.std.specs.Prelude.{count_by}
use Rattle.std.proofs.lemmas.List.Sums.{sum_by-cons}
use Rattle.jdwp_events.specs.declared.kind.Policy.TheVariants.{NoThread, EventThread, All}
use Rattle.suspend_ledger.specs.Suspensions.{Happening, composite, suspended, resumed, after, suspends, resumes, AllHeld}

count_by-∷ : (p : Happening → Bool) (latest : Happening) (earlier : List Happening)
    → count_by p (latest ∷ earlier) ≡ cond (p latest) 1 0 + count_by p earlier
count_by-∷ p latest earlier = sum_by-cons (λ happening. cond (p happening) 1 0) latest earlier

-- what is held, with the Resumes, is all that suspended
pub held_with_resumes : (history : List Happening) → AllHeld history
    → after history + count_by resumes history ≡ count_by suspends history
held_with_resumes [] all = refl
held_with_resumes (composite NoThread ∷ earlier) all =
    let before = held_with_resumes earlier all in
    omega (arith, count_by-∷ resumes (composite NoThread) earlier, count_by-∷ suspends (composite NoThread) earlier)
held_with_resumes (composite EventThread ∷ earlier) all =
    let before = held_with_resumes earlier all in
    omega (arith, count_by-∷ resumes (composite EventThread) earlier, count_by-∷ suspends (composite EventThread) earlier)
held_with_resumes (composite All ∷ earlier) all =
    let before = held_with_resumes earlier all in
    omega (arith, count_by-∷ resumes (composite All) earlier, count_by-∷ suspends (composite All) earlier)
held_with_resumes (suspended ∷ earlier) all =
    let before = held_with_resumes earlier all in
    omega (arith, count_by-∷ resumes suspended earlier, count_by-∷ suspends suspended earlier)
held_with_resumes (resumed ∷ earlier) all =
    let before = held_with_resumes earlier all.1 in
    let held = all.0 in
    omega (arith, count_by-∷ resumes resumed earlier, count_by-∷ suspends resumed earlier)

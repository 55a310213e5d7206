-- The bytes of a log, by the runs that it is kept as.
use Rattle.std.proofs.Common.{◌≡◌, ◌∙◌, ℕ, zero, suc, List, [], ◌∷◌, ◌++◌, ap, refl, replicate}
use Rattle.std.specs.List.{flat_map}
use Rattle.std.proofs.lemmas.Grind.{flat_map-append}
use Rattle.std.proofs.lemmas.List.{append-nil}
use Rattle.run_logs.specs.Runs.{entries_in, entries_of}
use Rattle.run_logs.specs.declared.run.Run.{Run}
use Rattle.run_logs.specs.declared.run.Run.TheVariants.{One, Quiets}
use Rattle.wire_core.specs.declared.outside.Entry.{Entry}
use Rattle.wire_core.specs.declared.outside.Entry.TheVariants.{Quiet}

-- the bytes of all entries are those of the runs
pub run_by_run : (bytes_in : Entry → List ℕ) (runs : List Run)
    → flat_map bytes_in (entries_of runs) ≡ flat_map (λ run. flat_map bytes_in (entries_in run)) runs
run_by_run bytes_in [] = refl
run_by_run bytes_in (run ∷ runs) =
    flat_map-append bytes_in (entries_in run) (entries_of runs)
    ∙ ap (λ more. flat_map bytes_in (entries_in run) ++ more) (run_by_run bytes_in runs)

-- one entry has its own
pub of_one : (bytes_in : Entry → List ℕ) (entry : Entry) → flat_map bytes_in (entries_in (One entry)) ≡ bytes_in entry
unfolding entries_in
of_one bytes_in entry = append-nil (bytes_in entry)

none_among : (bytes_in : Entry → List ℕ) (n : ℕ) → bytes_in Quiet ≡ [] → flat_map bytes_in (replicate n Quiet) ≡ []
none_among bytes_in zero none = refl
none_among bytes_in (suc n) none =
    ap (λ bytes. bytes ++ flat_map bytes_in (replicate n Quiet)) none ∙ none_among bytes_in n none

-- where a wait has none, waits have none
pub of_waits : (bytes_in : Entry → List ℕ) (n : ℕ) → bytes_in Quiet ≡ []
    → flat_map bytes_in (entries_in (Quiets n)) ≡ []
unfolding entries_in
of_waits bytes_in n none = none_among bytes_in n none

-- Logs of a few runs, worked out by computation, and where their numbers end.
use Rattle.std.proofs.Common.{◌≡◌, ◌-◌, ◌^◌, true, false, List, [], ◌∷◌, Some, None, refl, arith}
use Rattle.wire_core.specs.declared.outside.Entry.TheVariants.{In, Out, Shut, Failed, Quiet}
use Rattle.wire_core.specs.declared.outside.Side.TheVariants.{Client, Target}
use Rattle.run_logs.specs.declared.run.Run.{Run}
use Rattle.run_logs.specs.declared.run.Run.TheVariants.{One, Quiets}
use Rattle.run_logs.specs.Runs.{entries_in, entries_of, quiets_among, quiets_of, IsRun, AreApart, AreRuns}
use Rattle.run_logs.specs.Runs.{ends_in_quiet, last_count, places, CanTake}

-- two waits, bytes, a wait, an end, and three waits
some_runs : List Run
some_runs = Quiets 2 ∷ One (In Client (97 ∷ [])) ∷ Quiets 1 ∷ One (Shut Target) ∷ Quiets 3 ∷ []

no_entries : entries_of [] ≡ []
no_entries = refl

their_entries : entries_of some_runs
    ≡ Quiet ∷ Quiet ∷ In Client (97 ∷ []) ∷ Quiet ∷ Shut Target ∷ Quiet ∷ Quiet ∷ Quiet ∷ []
unfolding entries_in some_runs
their_entries = refl

their_waits : quiets_of some_runs ≡ 6
unfolding some_runs
their_waits = refl

counted_one_by_one : quiets_among (entries_of some_runs) ≡ 6
unfolding entries_in some_runs
counted_one_by_one = refl

they_are_runs : AreRuns some_runs
unfolding some_runs
they_are_runs = record {
  each = (omega arith, (tt, (omega arith, (tt, (omega arith, tt)))));
  apart = (tt, (tt, (tt, tt)));
  few = omega arith;
}

-- what is no run of a log
no_wait_alone : IsRun (One Quiet) → ⊥
no_wait_alone is = is

no_run_of_none : IsRun (Quiets 0) → ⊥
no_run_of_none is = omega arith

not_side_by_side : AreApart (One (Shut Client) ∷ Quiets 1 ∷ Quiets 2 ∷ []) → ⊥
not_side_by_side apart = apart.0

-- as many waits as a log may have, in one run and in two, and one more
most : AreRuns (Quiets (2 ^ 62) ∷ [])
most = record { each = (omega arith, tt); apart = (tt, tt); few = omega arith }

most_in_two : AreRuns (Quiets (2 ^ 62 - 1) ∷ One (Failed Client) ∷ Quiets 1 ∷ [])
most_in_two = record { each = (omega arith, (tt, (omega arith, tt))); apart = (tt, (tt, tt)); few = omega arith }

one_too_many : AreRuns (Quiets (2 ^ 62) ∷ One (Failed Client) ∷ Quiets 1 ∷ []) → ⊥
one_too_many are = omega (arith, are.few)

-- where the next wait goes, and that three waits leave room for one
counted_in_three : last_count None some_runs ≡ Some 3
unfolding some_runs
counted_in_three = refl

no_place_behind_waits : places Quiet some_runs ≡ 0
unfolding some_runs
no_place_behind_waits = refl

a_place_behind_bytes : places Quiet (Quiets 2 ∷ One (Out Target (1 ∷ [])) ∷ []) ≡ 1
a_place_behind_bytes = refl

a_place_for_an_end : places (Shut Client) (Quiets 2 ∷ []) ≡ 1
a_place_for_an_end = refl

waits_come_last : ends_in_quiet false (Shut Client ∷ Quiet ∷ []) ≡ true
waits_come_last = refl

one_more : CanTake Quiet (Quiet ∷ Shut Client ∷ Quiet ∷ Quiet ∷ [])
one_more = omega arith

-- A run that was begun is that of the top call; one that was not found a standard stream closed.
use Rattle.std.proofs.Common.{◌≡◌, true, Result, Ok, Err, OnErr}
use Rattle.std.proofs.lemmas.Bool.{false≢true}
use Rattle.std.specs.Prelude.{is_err}
use Rattle.bridge_cmd.specs.Program.{begun, not_begun}
use Rattle.bridge_cmd.proofs.run_on.Goals as goal

-- what holds of an error holds where there is one
of_error : {X E : Type 0} (r : Result X E) (P : Type 0) → OnErr r P → is_err r ≡ true → P
of_error (Ok x) P holds e = absurd (false≢true e)
of_error (Err x) P holds e = holds

pub returns-then-is_err : goal.returns-then-is_err
returns-then-is_err c =
    not_begun (of_error c.try_all.result _ c.try_all.ensures (search (c.is_err.ensures.value, c.if-is_err.true)))

pub returns : goal.returns
returns c = begun c.new-wires.ensures.asked c.new-files.ensures.asked c.bridge_main-status.ensures.runs

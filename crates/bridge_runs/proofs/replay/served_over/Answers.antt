use Rattle.std.proofs.Common.{refl}
use Rattle.std.proofs.lemmas.Result.{IfOk-weaker}
use Rattle.run_outcomes.proofs.FileLaws.{logged_of}
use Rattle.bridge_runs.proofs.replay.served_over.Goals as goal

-- what the wires were made over they are over behind the session, too
pub returns : goal.returns
returns c told replay =
    IfOk-weaker c.log_of.result _ _ (λ log kept. record {
      logged = logged_of _ _ _ _ _ log c.serve-ending.ensures.session c.requires.log c.in_ok-runs.ensures.whole kept;
      limits_are = kept.limits_are;
      in_order = rw kept.runs_are
          (c.in_ok-runs.ensures.in_order told (c.serve-ending.ensures.stays told replay)
          (rw (c.serve-ending.ensures.keeps.asked, c.requires.asked) refl));
    }) c.log_of.ensures

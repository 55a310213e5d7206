use Rattle.std.proofs.Common.{◌≡◌, [], List, Some, refl, sym, ap, subst, ◌∙◌}
use Rattle.bridge_runs.specs.Recording.{IsLogOf}
use Rattle.recorded_sessions.specs.Records.{IsRecord}
use Rattle.recorded_sessions.specs.declared.recording.Recorded.{Recorded}
use Rattle.run_logs.specs.Runs.{entries_of}
use Rattle.run_logs.specs.declared.run.Run.{Run}
use Rattle.run_outcomes.specs.FileRuns.{IsLogged, limits_of, usual_limits}
use Rattle.script_text.specs.declared.log.SessionLog.{SessionLog}
use Rattle.session_endings.specs.declared.ending.Limits.{Limits}
use Rattle.session_model.specs.Session.{IsLeft, IsSession}
use Rattle.wire_core.specs.Outside.{Outside}
use Rattle.wire_core.specs.declared.outside.Entry.{Entry}
use Rattle.bridge_runs.proofs.laws.a_record_is_a_session.Goals as goal

-- an outside whose log has these entries
with_log : Outside → List Entry → Outside
with_log o entries = record o { log = Some entries }

is_logged : (old new : Outside) (r : Recorded) (log : SessionLog) → IsRecord usual_limits old new r → IsLogOf r log
    → IsLogged log
unfolding with_log
is_logged old new r log is of =
    let entries_are = ap entries_of (sym of.runs_are) in
    record {
      old = with_log old [];
      new = with_log old (entries_of log.runs);
      ending = r.ending;
      session = record {
        added = entries_of log.runs;
        messages = is.session.messages;
        turns = is.session.turns;
        log = refl;
        left = subst (λ (l : Limits). IsLeft l (entries_of log.runs) is.session.messages is.session.turns r.ending)
            (sym of.limits_are)
            (subst (λ (l : List Entry). IsLeft usual_limits l is.session.messages is.session.turns r.ending)
            entries_are is.session.left);
      };
      nothing_before = refl;
      whole_log = refl;
      ending_told = of.ending_told;
      remembers = is.remembers;
    }

pub returns : goal.returns
returns c = is_logged

-- A session of a script is known by what the bridge did.
use Rattle.std.proofs.Common.{◌≡◌, ℕ, Bool, false, List, [], ◌∷◌, ◌++◌, Option, None, Some, refl, sym, ap}
use Rattle.std.proofs.Common.{subst, ◌∙◌}
use Rattle.script_courses.proofs.Lines.{comes_one, comes_unsent}
use Rattle.script_courses.proofs.Targets.{bytes_one}
use Rattle.script_courses.specs.Courses.{Doing, IsOne, doings, sends_of, sent_in}
use Rattle.script_rows.specs.declared.script.Script.{Script}
use Rattle.script_wires.specs.Played.{Played, SendsTo}
use Rattle.script_wires.specs.Playing.{Playing, closed}
use Rattle.script_wires.specs.Schedules.{Comes}
use Rattle.target_server.specs.Hearing.{TargetState}
use Rattle.wire_core.specs.declared.outside.Entry.{Entry}
use Rattle.wire_core.specs.declared.outside.Entry.TheVariants.{Out}
use Rattle.wire_core.specs.declared.outside.Side.{Side}
use Rattle.wire_core.specs.declared.outside.Side.TheVariants.{Client, Target}

-- Sending -------------------------------------------------------------------------------------------------------------

sends_one : (side : Side) (bytes : List ℕ) (old new other : Playing) → SendsTo side old bytes new
    → SendsTo side old bytes other → new ≡ other
sends_one Client bytes old new other a b = a ∙ sym b
sends_one Target bytes old new other a b =
    a.others ∙ ap (λ (t : TargetState). record old { target = t }) (bytes_one a.takes b.takes) ∙ sym b.others

-- What was done -------------------------------------------------------------------------------------------------------

rest_same : {one other : Doing} {before also : List Doing} → one ∷ before ≡ other ∷ also → before ≡ also
rest_same h = cc

same_side : {side also : Side} {bytes more : List ℕ} {before other : List Doing}
    → Doing.sends side bytes ∷ before ≡ Doing.sends also more ∷ other → side ≡ also
same_side h = cc

same_bytes : {side also : Side} {bytes more : List ℕ} {before other : List Doing}
    → Doing.sends side bytes ∷ before ≡ Doing.sends also more ∷ other → bytes ≡ more
same_bytes h = cc

-- one more thing is done in both
reached : {log other : List Entry} {old start new last : Playing} → IsOne log other old start → new ≡ closed Client old
    → last ≡ closed Client start → IsOne log other new last
reached one a b = record { logs = one.logs; places = a ∙ ap (λ (p : Playing). closed Client p) one.places ∙ sym b }

heard_more : {log other : List Entry} {old start new last : Playing} {entry also : Entry} → IsOne log other old start
    → Comes old entry new → Comes start also last → IsOne (log ++ entry ∷ []) (other ++ also ∷ []) new last
heard_more {log} {other} {start = start} {new = new} {entry = entry} one a b =
    let both = comes_one (subst (λ (p : Playing). Comes p entry new) one.places a) b in
    record {
      logs = ap (λ (l : List Entry). l ++ entry ∷ []) one.logs ∙ ap (λ (e : Entry). other ++ e ∷ []) both.0;
      places = both.1;
    }

sent_more : {log other : List Entry} {side also : Side} {bytes more : List ℕ} (old start new last : Playing)
    → side ≡ also → bytes ≡ more → IsOne log other old start → SendsTo side old bytes new → SendsTo also start more last
    → IsOne (log ++ Out side bytes ∷ []) (other ++ Out also more ∷ []) new last
sent_more {log} {other} {side} {also} {bytes} {more} old start new last to what one a b = record {
  logs = ap (λ (l : List Entry). l ++ Out side bytes ∷ []) one.logs
      ∙ ap (λ (s : Side). other ++ Out s bytes ∷ []) to ∙ ap (λ (m : List ℕ). other ++ Out also m ∷ []) what;
  places = sends_one also more start new last
      (subst (λ (p : Playing). SendsTo also p more new) one.places
      (subst (λ (m : List ℕ). SendsTo also old m new) what
      (subst (λ (s : Side). SendsTo s old bytes new) to a))) b;
}

pub one_course : {script : Script} {alone also : Bool} {log other : List Entry} {now last : Playing}
    (played : Played script alone log now) (again : Played script also other last) → doings played ≡ doings again
    → IsOne log other now last
one_course Played.begins Played.begins same = record { logs = refl; places = refl }
one_course (Played.reaches p a) (Played.reaches q b) same = reached (one_course p q (rest_same same)) a b
one_course (Played.hears p a) (Played.hears q b) same = heard_more (one_course p q (rest_same same)) a b
one_course (Played.sends side bytes p a) (Played.sends also more q b) same =
    sent_more _ _ _ _ (same_side same) (same_bytes same) (one_course p q (rest_same same)) a b
one_course Played.begins (Played.reaches q b) same = absurd cc
one_course Played.begins (Played.hears q b) same = absurd cc
one_course Played.begins (Played.sends also more q b) same = absurd cc
one_course (Played.reaches p a) Played.begins same = absurd cc
one_course (Played.reaches p a) (Played.hears q b) same = absurd cc
one_course (Played.reaches p a) (Played.sends also more q b) same = absurd cc
one_course (Played.hears p a) Played.begins same = absurd cc
one_course (Played.hears p a) (Played.reaches q b) same = absurd cc
one_course (Played.hears p a) (Played.sends also more q b) same = absurd cc
one_course (Played.sends side bytes p a) Played.begins same = absurd cc
one_course (Played.sends side bytes p a) (Played.reaches q b) same = absurd cc
one_course (Played.sends side bytes p a) (Played.hears q b) same = absurd cc

-- By the log ----------------------------------------------------------------------------------------------------------

abbrev doing_of : Option (Side × List ℕ) → Doing
doing_of None = Doing.hears
doing_of (Some sent) = Doing.sends sent.0 sent.1

-- what was done by such a log, the latest first, and behind it these
back : List (Option (Side × List ℕ)) → List Doing → List Doing
back [] done = done
back (sent ∷ more) done = back more (doing_of sent ∷ done)

back_last : (log : List Entry) (entry : Entry) (done : List Doing)
    → back (sends_of (log ++ entry ∷ [])) done ≡ doing_of (sent_in entry) ∷ back (sends_of log) done
unfolding back
back_last [] entry done = refl
back_last (first ∷ log) entry done = back_last log entry (doing_of (sent_in first) ∷ done)

done_by : {script : Script} {log : List Entry} {now : Playing} (played : Played script false log now)
    → doings played ≡ back (sends_of log) []
unfolding back
done_by Played.begins = refl
done_by (Played.hears {log = log} {entry = entry} played comes) =
    ap (λ (before : List Doing). Doing.hears ∷ before) (done_by played)
    ∙ ap (λ sent. doing_of sent ∷ back (sends_of log) []) (sym (comes_unsent comes))
    ∙ sym (back_last log entry [])
done_by (Played.sends {log = log} side bytes played sent) =
    ap (λ (before : List Doing). Doing.sends side bytes ∷ before) (done_by played)
    ∙ sym (back_last log (Out side bytes) [])

pub one_log : {script : Script} {log other : List Entry} {now last : Playing} (played : Played script false log now)
    (again : Played script false other last) → sends_of log ≡ sends_of other → IsOne log other now last
one_log played again same =
    one_course played again (done_by played ∙ ap (λ sent. back sent []) same ∙ sym (done_by again))

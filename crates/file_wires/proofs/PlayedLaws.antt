-- The log of wires that play a script.
use Rattle.std.proofs.Common.{◌≡◌, ◌∙◌, false, List, sym, subst, Option, Some}
use Rattle.std.specs.Prelude.{Bool}
use Rattle.script_rows.specs.declared.script.Script.{Script}
use Rattle.script_wires.specs.declared.wires.ScriptWires.{ScriptWires}
use Rattle.script_wires.specs.Played.{Played}
use Rattle.script_wires.specs.ScriptWires.{HasPlayed, IsOver, is_alone, is_refused, outside_of, playing_of}
use Rattle.script_wires.proofs.PlayedLaws.{over_has}
use Rattle.wire_core.specs.declared.outside.Entry.{Entry}
use Rattle.file_wires.specs.PlayedWires.{IsLogOf}

some_same : {A : Type 0} (x y : A) → ◌≡◌ {A = Option A} (Some x) (Some y) → x ≡ y
some_same x y h = cc

-- the whole log of wires over a script is one of it
log_of_played : (script : Script) (w : ScriptWires) (log : List Entry) → (outside_of w).log ≡ Some log
    → is_alone (outside_of w).asked ≡ false → HasPlayed script w → IsLogOf script log
log_of_played script w log kept both has =
    let same : has.log ≡ log = some_same _ _ (sym has.whole ∙ kept) in
    record {
      now = playing_of w;
      played = subst (λ (b : Bool). Played script b log (playing_of w)) both
          (subst (λ (l : List Entry). Played script (is_alone (outside_of w).asked) l (playing_of w)) same has.played);
    }

-- the log of wires that were made over a script is one of it
pub log_of_over : (script : Script) (w : ScriptWires) (log : List Entry) → IsOver script w → is_refused w ≡ false
    → is_alone (outside_of w).asked ≡ false → (outside_of w).log ≡ Some log → IsLogOf script log
log_of_over script w log over not_refused both kept =
    log_of_played script w log kept both (over_has script w over not_refused)

-- The log of wires over a script is one of that script.
use Rattle.std.proofs.Common.{◌≡◌, ℕ, Bool, true, false, List, [], refl, sym, ap, subst, ◌∙◌, inl, inr}
use Rattle.std.proofs.Common.{Option, Some}
use Rattle.std.specs.Prelude.{Result, Ok, Err}
use Rattle.wire_core.specs.declared.outside.Side.{Side}
use Rattle.wire_core.specs.declared.outside.Happening.{Happening}
use Rattle.wire_core.specs.declared.outside.Entry.{Entry}
use Rattle.wire_core.specs.declared.outside.SendFailed.{SendFailed}
use Rattle.script_rows.specs.declared.script.Script.{Script}
use Rattle.script_wires.specs.declared.wires.ScriptWires.{ScriptWires}
use Rattle.script_wires.specs.Played.{Played}
use Rattle.script_wires.specs.Playing.{Playing, beginning}
use Rattle.script_wires.specs.ScriptWires.{outside_of, playing_of, is_alone, is_refused, NextOfScript, SendsOfScript}
use Rattle.script_wires.specs.ScriptWires.{IsOver, HasPlayed}

abbrev log_of : ScriptWires → List Entry
log_of w = w.journal.log.entries

some_same : {A : Type 0} (x y : A) → ◌≡◌ {A = Option A} (Some x) (Some y) → x ≡ y
some_same x y h = cc

not_both : (b : Bool) → b ≡ true → b ≡ false → ⊥
not_both b h k = cc

abbrev asked_alone : ScriptWires → Bool
asked_alone w = is_alone (outside_of w).asked

as_played : (script : Script) (alone also : Bool) (log more : List Entry) (p q : Playing) → also ≡ alone → more ≡ log
    → q ≡ p → Played script alone log p → Played script also more q
as_played script alone also log more p q single same stands played =
    subst (λ (b : Bool). Played script b more q) (sym single)
    (subst (λ (l : List Entry). Played script alone l q) (sym same)
    (subst (λ (s : Playing). Played script alone log s) (sym stands) played))

hears_played : (script : Script) (old new : ScriptWires) (buffer : List ℕ) (happening : Happening)
    → NextOfScript old new buffer happening → is_refused new ≡ false
    → (is_refused old ≡ false → Played script (asked_alone old) (log_of old) (playing_of old))
    → Played script (asked_alone new) (log_of new) (playing_of new)
hears_played script old new buffer happening (inl gives) kept before =
    as_played script (asked_alone old) (asked_alone new) _ (log_of new) (playing_of new) (playing_of new)
    (ap is_alone gives.links.asked) (some_same _ _ gives.log) refl
    (Played.hears (before (sym gives.refused ∙ kept)) gives.comes)
hears_played script old new buffer happening (inr withholds) kept before =
    absurd (not_both (is_refused new) withholds.refuses.refused kept)

sends_played : (script : Script) (old new : ScriptWires) (side : Side) (bytes : List ℕ) (result : Result Unit SendFailed)
    → SendsOfScript old new side bytes result → is_refused new ≡ false
    → (is_refused old ≡ false → Played script (asked_alone old) (log_of old) (playing_of old))
    → Played script (asked_alone new) (log_of new) (playing_of new)
sends_played script old new side bytes (Ok u) sends kept before =
    as_played script (asked_alone old) (asked_alone new) _ (log_of new) (playing_of new) (playing_of new)
    (ap is_alone sends.links.asked) (some_same _ _ sends.log) refl
    (Played.sends side bytes (before (sym sends.refused ∙ kept)) sends.sends)
sends_played script old new side bytes (Err e) refuses kept before =
    absurd (not_both (is_refused new) refuses.refused kept)

over_played : (script : Script) (w : ScriptWires) → IsOver script w → is_refused w ≡ false
    → Played script (asked_alone w) (log_of w) (playing_of w)
over_played script w (IsOver.made new) kept =
    as_played script false (asked_alone w) [] (log_of w) (beginning script) (playing_of w) (ap is_alone new.asked)
    (some_same _ _ new.log) new.playing Played.begins
over_played script w (IsOver.connects {old = old} over keeps) kept =
    as_played script (asked_alone old) (asked_alone w) (log_of old) (log_of w) (playing_of old) (playing_of w) keeps.alone
    (some_same _ _ keeps.log) keeps.playing (over_played script old over (sym keeps.refused ∙ kept))
over_played script w (IsOver.reaches {old = old} over leaves) kept =
    as_played script true (asked_alone w) (log_of old) (log_of w) (playing_of w) (playing_of w) leaves.alone
    (some_same _ _ leaves.log) refl
    (Played.reaches (as_played script (asked_alone old) false (log_of old) (log_of old) (playing_of old) (playing_of old)
    (sym (ap is_alone leaves.was_none)) refl refl (over_played script old over (sym leaves.refused ∙ kept)))
    leaves.playing)
over_played script w (IsOver.hears {old = old} buffer happening over next) kept =
    hears_played script old w buffer happening next kept (over_played script old over)
over_played script w (IsOver.sends {old = old} side bytes result over sends) kept =
    sends_played script old w side bytes result sends kept (over_played script old over)

pub over_has : (script : Script) (w : ScriptWires) → IsOver script w → is_refused w ≡ false → HasPlayed script w
over_has script w over kept =
    record { log = log_of w; whole = refl; played = over_played script w over kept }

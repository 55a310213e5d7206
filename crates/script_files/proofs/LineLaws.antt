-- What a line says, from what `serde_json` says of it.
use Rattle.std.proofs.Common.{◌≡◌, ℕ, List, Bool, true, false, if◌then◌else◌, Option, Some, None, Result, Err, IsUtf8, refl}
use Rattle.std.proofs.Common.{sym, subst, ap, ◌∙◌}
use Rattle.std.specs.Str.{is_utf8}
use Rattle.std.proofs.lemmas.Str.{IsUtf8-from_is_utf8, is_utf8-from_IsUtf8}
use Rattle.serde_json.specs.Data.{Data}
use Rattle.serde_json.specs.Read.{read}
use Rattle.script_rows.specs.declared.rows.Row.{Row}
use Rattle.script_text.specs.declared.log.ScriptFault.{ScriptFault}
use Rattle.script_text.specs.declared.log.ScriptFault.TheVariants.{NotUtf8, NotJson}
use Rattle.target_scripts.specs.declared.building.RowTrouble.{RowTrouble}
use Rattle.line_elements.specs.declared.version.Version.{Version}
use Rattle.script_files.specs.Reading.{row_in, row_read, shaped, IsLine}

row_if : Version → Bool → List ℕ → Result Row ScriptFault
row_if v utf8 line = if utf8 then row_read v (read line) else Err NotUtf8

other_bytes : (v : Version) (utf8 : Bool) (line : List ℕ) → (utf8 ≡ true → IsUtf8 line) → (IsUtf8 line → ⊥) →
    row_if v utf8 line ≡ Err NotUtf8
unfolding row_if
other_bytes v true line is other = absurd (other (is refl))
other_bytes v false line is other = refl

pub row_in-not_utf8 : (v : Version) (line : List ℕ) → (IsUtf8 line → ⊥) → row_in v line ≡ Err NotUtf8
unfolding row_in row_if
row_in-not_utf8 v line other = other_bytes v (is_utf8 line) line (IsUtf8-from_is_utf8 line) other

pub row_in-read : (v : Version) (line : List ℕ) (value : Option Data) → IsUtf8 line → read line ≡ value →
    row_in v line ≡ row_read v value
unfolding row_in row_if
row_in-read v line value utf8 e =
    ap (λ test. row_if v test line) (is_utf8-from_IsUtf8 line utf8) ∙ ap (row_read v) e

pub IsLine-value : (v : Version) (line text : List ℕ) (value : Data) (result : Result Row RowTrouble) →
    text ≡ line → IsUtf8 line → read text ≡ Some value → IsLine result (shaped v value) → IsLine result (row_in v line)
IsLine-value v line text value result same utf8 e is =
    subst (IsLine result) (sym (row_in-read v line (Some value) utf8 (ap read (sym same) ∙ e))) is

pub row_in-not_json : (v : Version) (line text : List ℕ) → text ≡ line → IsUtf8 line → read text ≡ None →
    row_in v line ≡ Err NotJson
row_in-not_json v line text same utf8 e = row_in-read v line None utf8 (ap read (sym same) ∙ e)

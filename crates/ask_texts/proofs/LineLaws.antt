-- What a line says, from what `serde_json` says of it.
use Rattle.std.proofs.Common.{◌≡◌, ℕ, List, Bool, true, false, if◌then◌else◌, Option, Some, None, Result, Err, IsUtf8, refl}
use Rattle.std.proofs.Common.{sym, subst, ap, ◌∙◌}
use Rattle.std.specs.Str.{is_utf8}
use Rattle.std.proofs.lemmas.Str.{IsUtf8-from_is_utf8, is_utf8-from_IsUtf8}
use Rattle.serde_json.specs.Data.{Data}
use Rattle.serde_json.specs.Read.{read}
use Rattle.script_text.specs.declared.log.ScriptFault.{ScriptFault}
use Rattle.script_text.specs.declared.log.ScriptFault.TheVariants.{NotUtf8, NotJson}
use Rattle.script_text.specs.declared.read.LineTrouble.{LineTrouble}
use Rattle.ask_texts.specs.declared.rows.Row.{Row}
use Rattle.ask_texts.specs.Reading.{row_in, row_read, shaped, IsLine}

row_if : Bool → List ℕ → Result Row ScriptFault
row_if utf8 line = if utf8 then row_read (read line) else Err NotUtf8

other_bytes : (utf8 : Bool) (line : List ℕ) → (utf8 ≡ true → IsUtf8 line) → (IsUtf8 line → ⊥) →
    row_if utf8 line ≡ Err NotUtf8
unfolding row_if
other_bytes true line is other = absurd (other (is refl))
other_bytes false line is other = refl

pub row_in-not_utf8 : (line : List ℕ) → (IsUtf8 line → ⊥) → row_in line ≡ Err NotUtf8
unfolding row_in row_if
row_in-not_utf8 line other = other_bytes (is_utf8 line) line (IsUtf8-from_is_utf8 line) other

pub row_in-read : (line : List ℕ) (value : Option Data) → IsUtf8 line → read line ≡ value → row_in line ≡ row_read value
unfolding row_in row_if
row_in-read line value utf8 e =
    ap (λ test. row_if test line) (is_utf8-from_IsUtf8 line utf8) ∙ ap row_read e

pub IsLine-value : (line text : List ℕ) (value : Data) (result : Result Row LineTrouble) →
    text ≡ line → IsUtf8 line → read text ≡ Some value → IsLine result (shaped value) → IsLine result (row_in line)
IsLine-value line text value result same utf8 e is =
    subst (IsLine result) (sym (row_in-read line (Some value) utf8 (ap read (sym same) ∙ e))) is

pub row_in-not_json : (line text : List ℕ) → text ≡ line → IsUtf8 line → read text ≡ None → row_in line ≡ Err NotJson
row_in-not_json line text same utf8 e = row_in-read line None utf8 (ap read (sym same) ∙ e)

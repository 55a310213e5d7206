-- The JSON that a text is, by whether it is in UTF-8.
use Rattle.std.proofs.Common.{◌≡◌, ◌∙◌, ℕ, Bool, true, false, if◌then◌else◌, List, Option, Some, None, IsUtf8, ap, refl, sym}
use Rattle.std.specs.Str.{is_utf8}
use Rattle.std.proofs.lemmas.Str.{IsUtf8-from_is_utf8, is_utf8-from_IsUtf8}
use Rattle.serde_json.specs.Data.{Data}
use Rattle.serde_json.specs.Read.{read}
use Rattle.dump_client.specs.Messages.{value_in}

-- what is read of a text, by whether it is in UTF-8
read_if : Bool → Option Data → Option Data
read_if utf8 value = if utf8 then value else None

pub value_utf8 : (text : List ℕ) (d : Data) → IsUtf8 text → read text ≡ Some d → Some d ≡ value_in text
unfolding read_if
value_utf8 text d utf8 e = sym (ap (λ test. read_if test (read text)) (is_utf8-from_IsUtf8 text utf8) ∙ e)

unread : (utf8 : Bool) (value : Option Data) → (utf8 ≡ true → value ≡ None) → read_if utf8 value ≡ None
unfolding read_if
unread true value none = none refl
unread false value none = refl

pub value_none : (text : List ℕ) → (IsUtf8 text → read text ≡ None) → None ≡ value_in text
unfolding read_if
value_none text none = sym (unread (is_utf8 text) (read text) (λ utf8. none (IsUtf8-from_is_utf8 text utf8)))

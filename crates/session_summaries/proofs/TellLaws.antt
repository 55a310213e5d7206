-- What a body tells, by whether it is JSON in UTF-8.
use Rattle.std.proofs.Common.{◌≡◌, ◌∙◌, ℕ, Bool, true, false, if◌then◌else◌, List, Option, Some, None, IsUtf8, ap, refl}
use Rattle.std.specs.Option.{option_map_or}
use Rattle.std.specs.Str.{is_utf8}
use Rattle.std.proofs.lemmas.Str.{IsUtf8-from_is_utf8, is_utf8-from_IsUtf8}
use Rattle.serde_json.specs.Data.{Data}
use Rattle.serde_json.specs.Read.{read}
use Rattle.session_summaries.specs.declared.told.Tally.{Tally}
use Rattle.session_summaries.specs.Told.{none_told, told_by, told_of}

-- what a body tells, by whether it is in UTF-8 and what it is read as
telling : Bool → Option Data → Tally
telling utf8 value = option_map_or told_of (if utf8 then value else None) none_told

pub told_utf8 : (body : List ℕ) (d : Data) → IsUtf8 body → read body ≡ Some d → told_by body ≡ told_of d
unfolding telling
told_utf8 body d utf8 e =
    ap (λ test. telling test (read body)) (is_utf8-from_IsUtf8 body utf8) ∙ ap (λ value. telling true value) e

untold : (utf8 : Bool) (value : Option Data) → (utf8 ≡ true → value ≡ None) → telling utf8 value ≡ none_told
unfolding telling
untold true value none = ap (λ value. telling true value) (none refl)
untold false value none = refl

pub told_none : (body : List ℕ) → (IsUtf8 body → read body ≡ None) → told_by body ≡ none_told
unfolding telling
told_none body none = untold (is_utf8 body) (read body) (λ utf8. none (IsUtf8-from_is_utf8 body utf8))

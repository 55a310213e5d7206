-- The reading of a body, from what `serde_json` says of it.
use Rattle.std.proofs.Common.{◌≡◌, ℕ, List, Bool, true, false, Some, None, Result, Err, if◌then◌else◌, IsUtf8, refl}
use Rattle.std.proofs.Common.{sym, subst, ap, ◌∙◌}
use Rattle.std.specs.Str.{is_utf8}
use Rattle.std.proofs.lemmas.Str.{IsUtf8-from_is_utf8, is_utf8-from_IsUtf8}
use Rattle.serde_json.specs.Data.{Data}
use Rattle.serde_json.specs.Read.{read}
use Rattle.dap_messages.specs.Reading.{incoming_of, reading_of, reading_of_value, IsIncoming, IsReading}
use Rattle.dap_messages.specs.declared.requests.Incoming.{Incoming}
use Rattle.dap_messages.specs.declared.requests.ReadFault.{ReadFault}
use Rattle.dap_messages.specs.declared.requests.ReadFault.TheVariants.{NotJson}

reading : Bool → List ℕ → Result Incoming ReadFault
reading utf8 body = if utf8 then reading_of_value (read body) else Err NotJson

pub reading_of-value : (body : List ℕ) (message : Data) →
    IsUtf8 body → read body ≡ Some message → reading_of body ≡ incoming_of message
unfolding reading_of reading
reading_of-value body message utf8 e =
    ap (λ test. reading test body) (is_utf8-from_IsUtf8 body utf8) ∙ ap reading_of_value e

unread : (utf8 : Bool) (body : List ℕ) → (utf8 ≡ true → read body ≡ None) → reading utf8 body ≡ Err NotJson
unfolding reading
unread true body none = ap reading_of_value (none refl)
unread false body none = refl

pub reading_of-not_json : (body : List ℕ) → (IsUtf8 body → read body ≡ None) → reading_of body ≡ Err NotJson
unfolding reading_of reading
reading_of-not_json body none = unread (is_utf8 body) body (λ utf8. none (IsUtf8-from_is_utf8 body utf8))

pub IsReading-value : (body : List ℕ) (message : Data) (result : Result Incoming ReadFault) →
    IsUtf8 body → read body ≡ Some message → IsIncoming result (incoming_of message) → IsReading body result
IsReading-value body message result utf8 e incoming =
    subst (IsIncoming result) (sym (reading_of-value body message utf8 e)) incoming

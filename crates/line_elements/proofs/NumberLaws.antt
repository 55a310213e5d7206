-- What readers of numbers and texts find.
use Rattle.std.proofs.Common.{◌≡◌, ℕ, List, Option, Some, None, IsUtf8, refl}
use Rattle.std.specs.Str.{is_utf8}
use Rattle.std.proofs.lemmas.Str.{is_utf8-from_IsUtf8}
use Rattle.line_elements.specs.Numbers.{utf8_text}

pub is_utf8_text : (s : List ℕ) → IsUtf8 s → utf8_text s ≡ Some s
is_utf8_text s utf8 = rw (is_utf8-from_IsUtf8 s utf8) refl

-- A string's bytes as text, whatever bytes were sent. They should be UTF-8
-- (JDWP, Detailed Command Information, common data types, string).
use Rattle.std.specs.Prelude.{ℕ, zero, suc, List, [], ◌∷◌, ◌++◌, take, find, Option, None, Some}
use Rattle.std.specs.Str.{is_utf8}
use Rattle.std.specs.Str.Lossy.{replacement_bytes}

-- how many of the bytes behind b go on with the well-formed byte sequence that b begins, where b begins one
-- (Unicode Standard, section 3.9, table 3-7)
abbrev pub continued : ℕ → List ℕ → Option ℕ
continued b bytes = find (λ n. is_utf8 (b ∷ take n bytes)) (0 ∷ 1 ∷ 2 ∷ 3 ∷ [])

-- the text of bytes, of which the first n go on with a sequence that began before them
unfoldable pub lossy_after : ℕ → List ℕ → List ℕ
lossy_after n [] = []
lossy_after (suc n) (b ∷ bytes) = b ∷ lossy_after n bytes
lossy_after zero (b ∷ bytes) = elim (continued b bytes) as (λ _. List ℕ) [
  | None ↦ replacement_bytes ++ lossy_after 0 bytes
  | Some n ↦ b ∷ lossy_after n bytes
]

-- the bytes with U+FFFD in place of each that begins no well-formed sequence, reading on at the next byte
unfoldable pub lossy : List ℕ → List ℕ
lossy bytes = lossy_after 0 bytes

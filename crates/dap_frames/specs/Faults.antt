-- Which fault a refused byte is, by the bytes of the frame before it and the byte: the first of six causes that applies
-- (DAP overview, Base protocol).
use Rattle.std.specs.Prelude.{◌≡◌, ◌≢◌, ℕ, ◌<◌, ◌≤◌, ◌⊎◌, List, [], ◌∷◌, ◌++◌, length, replicate, codes, None}
use Rattle.std.specs.List.{AllByRecursion}
use Rattle.std.specs.Str.Parse.{AllDigits, digits_value}
use Rattle.wire_core.specs.Streams.{joined}
use Rattle.dap_frames.specs.declared.fault.FrameFault.{FrameFault}
use Rattle.dap_frames.specs.declared.fault.FrameFault.TheVariants.{HeaderTooLong, NoLength, TwoLengths, TooLong}
use Rattle.dap_frames.specs.declared.fault.FrameFault.TheVariants.{BadLength, BadHeader}
use Rattle.dap_frames.specs.Frames.{IsName, IsLengthName, IsOtherLine, AreLines}

-- `0` to `9`
abbrev pub IsDigit : ℕ → Type 0
IsDigit b = (48 ≤ b) × (b ≤ 57)

-- The start of a line, behind lines of which none says a length.
pub record IsUnsaid (before : List ℕ) : Type 0 where
  pub lines : List (List ℕ)
  pub text : before ≡ joined lines
  pub others : AllByRecursion IsOtherLine lines

-- A second name `Content-Length`: one of the lines before it says a length.
pub record IsSecondName (before : List ℕ) : Type 0 where
  pub lines : List (List ℕ)
  pub name : List ℕ
  pub said : ℕ
  pub text : before ≡ joined lines ++ name
  pub are_lines : AreLines None lines said
  pub is_name : IsName name
  pub says_length : IsLengthName name

-- Within a length: these digits of it were read, as many and as large as a length may have.
pub record IsInLength (before : List ℕ) (digits : List ℕ) : Type 0 where
  pub lines : List (List ℕ)
  pub name : List ℕ
  pub blanks : ℕ
  pub text : before ≡ joined lines ++ (name ++ codes ":" ++ replicate blanks 32 ++ digits)
  pub others : AllByRecursion IsOtherLine lines
  pub is_name : IsName name
  pub says_length : IsLengthName name
  pub numeral : AllDigits 10 digits
  pub short : length digits ≤ 10
  pub bounded : digits_value 10 digits ≤ 16777216

-- No byte of a length: no digit and no blank in front of the first, neither a digit nor `\r` behind one, or an
-- eleventh.
abbrev pub IsNoneOfLength : List ℕ → ℕ → Type 0
IsNoneOfLength [] byte = (¬ IsDigit byte) × (byte ≢ 32)
IsNoneOfLength (d ∷ ds) byte = ((¬ IsDigit byte) × (byte ≢ 13)) ⊎ (IsDigit byte × (length (d ∷ ds) ≡ 10))

-- The cause of each fault: the 4,097th byte of a header; a `\r` at the start of a line, with no length said; the colon
-- behind a second `Content-Length`; the digit that brings a length above 16,777,216; another byte that is none of a
-- length; any other byte.
abbrev pub Applies : FrameFault → List ℕ → ℕ → Type 0
Applies HeaderTooLong before byte = length before ≡ 4096
Applies NoLength before byte = IsUnsaid before × (byte ≡ 13)
Applies TwoLengths before byte = IsSecondName before × (byte ≡ 58)
Applies TooLong before byte =
    (digits : List ℕ) × IsInLength before digits × IsDigit byte × (16777216 < digits_value 10 (digits ++ byte ∷ []))
Applies BadLength before byte = (digits : List ℕ) × IsInLength before digits × IsNoneOfLength digits byte
Applies BadHeader before byte = Unit {0}

-- the order in which they are tried
abbrev pub causes : List FrameFault
causes = HeaderTooLong ∷ NoLength ∷ TwoLengths ∷ TooLong ∷ BadLength ∷ BadHeader ∷ []

-- the first of some faults whose cause applies
abbrev pub IsFirst : List FrameFault → FrameFault → List ℕ → ℕ → Type 0
IsFirst [] fault before byte = ⊥
IsFirst (cause ∷ others) fault before byte =
    ((fault ≡ cause) × Applies cause before byte) ⊎ ((¬ Applies cause before byte) × IsFirst others fault before byte)

-- Names by their bytes, one after the other.
use Rattle.std.specs.Prelude.{ℕ, zero, suc, ◌==◌, ◌&&◌, if◌then◌else◌, List, [], ◌∷◌, Option, Some, None}
use Rattle.jdwp_values.specs.Lossy.{continued}
use Rattle.wish_sets.specs.Names.{is_slash, dotted}

-- a byte of a path, as it stands in a name
abbrev pub dot_for : ℕ → ℕ
dot_for byte = if is_slash byte then 46 else byte

-- the rest of a name behind the byte at its front, where it is this one
abbrev pub rest_behind : List ℕ → ℕ → Option (List ℕ)
rest_behind [] byte = None
rest_behind (first ∷ rest) byte = if first == byte then Some rest else None

-- the rest of a name behind U+FFFD at its front
abbrev pub rest_behind_replaced : List ℕ → Option (List ℕ)
rest_behind_replaced (first ∷ second ∷ third ∷ rest) =
    if (first == 239) && ((second == 191) && (third == 189)) then Some rest else None
rest_behind_replaced name = None

-- how many bytes go on with a sequence behind a byte that goes on with a name, and the rest of the name
abbrev pub count_with : ℕ → Option (List ℕ) → Option (ℕ × List ℕ)
count_with count None = None
count_with count (Some rest) = Some (count, rest)

-- the byte begins a sequence, where it begins one
abbrev pub begun : ℕ → Option ℕ → List ℕ → Option (ℕ × List ℕ)
begun byte None name = count_with 0 (rest_behind_replaced name)
begun byte (Some count) name = count_with count (rest_behind name (dot_for byte))

-- it goes on with a sequence that began before it, or begins one
abbrev pub gone_on : ℕ → List ℕ → ℕ → List ℕ → Option (ℕ × List ℕ)
gone_on byte path zero name = begun byte (continued (dot_for byte) (dotted path)) name
gone_on byte path (suc count) name = count_with count (rest_behind name (dot_for byte))

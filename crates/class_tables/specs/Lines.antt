-- The lines of a method: each entry has a line of the source and the index of the first code that is of it (JDWP,
-- Method command set, LineTable).
use Rattle.std.specs.Prelude.{◌≡◌, ℕ, ◌<◌, ◌≤◌, ℤ, nat_lt, nat_le, min, if◌then◌else◌, List, [], ◌∷◌, ◌++◌, filter, map}
use Rattle.std.specs.Prelude.{Option, Some, None}
use Rattle.std.specs.Ordering.{int_eq}
use Rattle.std.specs.List.{AllByRecursion}
use Rattle.jdwp_values.specs.declared.class.Line.{Line}

-- of the entries before a place and those behind it, the one of the greatest index, of ties the last
abbrev pub later : Option Line → Option Line → Option Line
later None behind = behind
later (Some before) None = Some before
later (Some before) (Some behind) = if nat_lt behind.index before.index then Some before else Some behind

-- the entry of the greatest index, the last of ties
abbrev pub greatest : List Line → Option Line
greatest [] = None
greatest (entry ∷ entries) = later (Some entry) (greatest entries)

-- the entry that a code index belongs to: that of the greatest index not above it, the last of ties (JDWP, Method
-- command set, LineTable, lineCodeIndex)
abbrev pub entry_at : ℕ → List Line → Option Line
entry_at index entries = greatest (filter (λ entry. nat_le entry.index index) entries)

-- the lesser of two indices, where there are any
abbrev pub lesser : Option ℕ → Option ℕ → Option ℕ
lesser None other = other
lesser (Some n) None = Some n
lesser (Some n) (Some m) = Some (min n m)

-- the least of some indices
abbrev pub least : List ℕ → Option ℕ
least [] = None
least (n ∷ indices) = lesser (Some n) (least indices)

-- the code index at which a line begins: the least of its entries' indices
abbrev pub line_start : ℤ → List Line → Option ℕ
line_start line entries = least (map (λ entry. entry.index) (filter (λ entry. int_eq entry.line line) entries))

-- An entry that a code index belongs to: no entry that is not above the index is above it, and none behind it ties.
pub record IsEntryAt (index : ℕ) (entries : List Line) (entry : Line) : Type 0 where
  pub front : List Line
  pub back : List Line
  pub parts : entries ≡ front ++ entry ∷ back
  pub reached : entry.index ≤ index
  pub before : AllByRecursion (λ other. other.index ≤ index → other.index ≤ entry.index) front
  pub behind : AllByRecursion (λ other. other.index ≤ index → other.index < entry.index) back

-- A code index at which a line begins: an entry of the line has it, and none of the line has one below it.
pub record IsLineStart (line : ℤ) (entries : List Line) (start : ℕ) : Type 0 where
  pub entry : Line
  pub front : List Line
  pub back : List Line
  pub parts : entries ≡ front ++ entry ∷ back
  pub of_line : entry.line ≡ line
  pub at : entry.index ≡ start
  pub least : AllByRecursion (λ other. other.line ≡ line → start ≤ other.index) entries

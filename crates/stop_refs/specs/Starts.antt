-- How the first numbers of stops are kept: of those stops alone in which a thing was told, each with its own number.
use Rattle.std.specs.Prelude.{ℕ, ◌+◌, ◌-◌, ◌<◌, ◌≤◌, ◌^◌, List, [], ◌∷◌, ◌++◌, replicate}
use Rattle.stop_refs.specs.declared.start.Start.{Start}
use Rattle.stop_refs.specs.Numbers.{end}

-- The first numbers of the stops behind one and up to another, where the next number is known: a stop in which nothing
-- was told began with the same number as the stop behind it.
abbrev pub firsts_of : ℕ → ℕ → ℕ → List Start → List ℕ
firsts_of behind last next [] = replicate (last - behind) next
firsts_of behind last next (start ∷ starts) =
    replicate (start.stop - behind) start.first ++ firsts_of start.stop last next starts

-- stops and first numbers rise, from behind a stop and from a number, up to the last stop and the next number
abbrev pub AreKept : ℕ → ℕ → ℕ → ℕ → List Start → Type 0
AreKept behind low last next [] = (behind ≤ last) × (low ≤ next)
AreKept behind low last next (start ∷ starts) =
    (behind < start.stop) × (low ≤ start.first) × AreKept start.stop start.first last next starts

-- so many stops are over, and the next number is this
pub record IsPast (last next : ℕ) (starts : List Start) : Type 0 where
  pub kept : AreKept 0 1 last next starts
  pub within : next ≤ end

-- a stop is in hand, in which so many things were told, behind so many stops; where there are any, its first number can
-- be kept in the room that is left
pub record IsInHand (last first told taken capacity : ℕ) (starts : List Start) : Type 0 where
  pub kept : AreKept 0 1 last first starts
  pub within : first + told ≤ end
  pub counted : last + 1 < 2 ^ 63
  pub room : 0 < told → taken < capacity

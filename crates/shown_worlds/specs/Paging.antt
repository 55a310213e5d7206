-- Pages of what is shown (DAP specification, StackTrace request, startFrame and levels; Variables request, start and
-- count).
use Rattle.std.specs.Prelude.{ℕ, zero, suc, List, take, drop}

-- no more than this is shown at once
abbrev pub most_shown : ℕ
most_shown = 10000

-- so many items, where 0 is all
abbrev pub so_many : {A : Type 0} → ℕ → List A → List A
so_many zero items = items
so_many (suc count) items = take (suc count) items

-- from a place on, so many of them
abbrev pub page : {A : Type 0} → ℕ → ℕ → List A → List A
page start count items = take most_shown (so_many count (drop start items))

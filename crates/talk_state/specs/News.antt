-- Whether the client knows of all breakpoints that are verified.
use Rattle.std.specs.Prelude.{◌≡◌, ℕ, true, List}
use Rattle.std.specs.List.{list_all}
use Rattle.machine_model.specs.Breakpoints.{has_id}
use Rattle.wish_sets.specs.Entries.{verified}
use Rattle.wish_sets.specs.Wishes.{Wishes}

-- each breakpoint that is verified was told to be (DAP specification, Events, Breakpoint)
abbrev pub AreTold : Wishes → List ℕ → Type 0
AreTold wishes ids = list_all (λ entry. has_id ids entry.id) (verified wishes) ≡ true

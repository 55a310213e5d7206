-- How a list of commands holds a window.
use Rattle.std.specs.Prelude.{◌≡◌, ℕ, ◌<◌, ◌≤◌, List, [], ◌∷◌, length, map, None}
use Rattle.jdwp_commands.specs.declared.asked.Asked.{Asked}
use Rattle.pending_table.specs.declared.place.Sent.{Sent}
use Rattle.pending_table.specs.Windows.{turn, pending_under}

-- commands behind their ids
abbrev pub sent_in : List Sent → List (ℕ × Asked)
sent_in commands = map (λ command. (command.id, command.asked)) commands

-- no two commands have one id
abbrev pub AreApart : List (ℕ × Asked) → Type 0
AreApart [] = Unit {0}
AreApart (s ∷ sent) = (pending_under s.0 sent ≡ None) × AreApart sent

-- sixteen commands at most wait, no id twice, and the next id is one of a turn
pub record IsWindow (commands : List Sent) (next : ℕ) : Type 0 where
  pub fits : length commands ≤ 16
  pub apart : AreApart (sent_in commands)
  pub within : next < turn

-- The window of pending commands (JDWP, JDWP Packets, id: a reply has the id of its command, and the sender sees to it
-- that the ids of commands without a reply differ).
use Rattle.std.specs.Prelude.{◌≡◌, ℕ, suc, ◌+◌, ◌-◌, ◌%◌, ◌^◌, Bool, ◌==◌, ◌||◌, if◌then◌else◌, List, [], ◌∷◌, ◌++◌}
use Rattle.std.specs.Prelude.{length, Option, Some, None, is_some, option_map}
use Rattle.jdwp_commands.specs.declared.asked.Asked.{Asked}

-- how many ids there are: all that four bytes hold, but 0
abbrev pub turn : ℕ
turn = 2 ^ 32 - 1

-- the id of the n-th command that is sent, from 0
abbrev pub id_of : ℕ → ℕ
id_of n = n % turn + 1

-- the commands without a reply, each behind its id, in the order in which they were sent; and how many were sent so
-- far, whole turns of ids left out
pub record Window : Type 0 where
  pub sent : List (ℕ × Asked)
  pub next : ℕ

-- no command was sent
abbrev pub fresh : Window
fresh = record { sent = []; next = 0 }

-- the command that is pending under an id
abbrev pub pending_under : ℕ → List (ℕ × Asked) → Option Asked
pending_under id [] = None
pending_under id (s ∷ sent) = if s.0 == id then Some s.1 else pending_under id sent

-- its place among those that are pending, from 0
abbrev pub place_under : ℕ → List (ℕ × Asked) → Option ℕ
place_under id [] = None
place_under id (s ∷ sent) = if s.0 == id then Some 0 else option_map (λ (n : ℕ). 1 + n) (place_under id sent)

-- all but that command
abbrev pub without : ℕ → List (ℕ × Asked) → List (ℕ × Asked)
without id [] = []
without id (s ∷ sent) = if s.0 == id then sent else s ∷ without id sent

-- some commands are others but one, which is of this id
pub record LackOne (id : ℕ) (asked : Asked) (sent others : List (ℕ × Asked)) : Type 0 where
  pub front : List (ℕ × Asked)
  pub back : List (ℕ × Asked)
  pub sent_are : sent ≡ front ++ (id, asked) ∷ back
  pub others_are : others ≡ front ++ back

-- 16 are pending, or the next id is
abbrev pub is_full : Window → Bool
is_full w = (length w.sent == 16) || is_some (pending_under (id_of w.next) w.sent)

-- a command is sent, behind those that were
abbrev pub with_sent : Asked → Window → Window
with_sent asked w = record { sent = w.sent ++ (id_of w.next, asked) ∷ []; next = (w.next + 1) % turn }

-- the reply of this id came
abbrev pub settled : ℕ → Window → Window
settled id w = record { sent = without id w.sent; next = w.next }

-- what a session does with its window
pub data Move : Type 0 where
  sends : Asked → Move
  settles : ℕ → Move

-- what a move makes of the window
abbrev pub move : Move → Window → Window
move (sends asked) = with_sent asked
move (settles id) = settled id

-- the window after these moves, the latest first
abbrev pub after : List Move → Window
after [] = fresh
after (latest ∷ moves) = move latest (after moves)

-- how many commands these moves send
abbrev pub sends_in : List Move → ℕ
sends_in [] = 0
sends_in (sends asked ∷ moves) = suc (sends_in moves)
sends_in (settles id ∷ moves) = sends_in moves

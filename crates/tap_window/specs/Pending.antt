-- Commands that have no reply yet, as they are kept.
use Rattle.std.specs.Prelude.{ℕ, ◌≡◌, ◌+◌, ◌%◌, ◌<◌, Bool, false, List, Option, Some, None, map, count_by}
use Rattle.std.specs.Prelude.{if◌then◌else◌, nat_le}
use Rattle.std.specs.List.{AllByRecursion}
use Rattle.std.specs.List.Sorted.{IsStrictlySortedBy}
use Rattle.std.specs.Map.{keys_of}
use Rattle.std.specs.Ordering.{nat_cmp}
use Rattle.pending_table.specs.Windows.{turn}
use Rattle.tap_model.specs.declared.owner.Owner.{Owner}
use Rattle.tap_model.specs.States.{is_debuggers, is_question}

-- the numbers that the ids of a turn are kept under
abbrev pub per_turn : ℕ
per_turn = 4294967296

-- the id of the command that is kept under a number (JDWP, JDWP Packets, id)
abbrev pub id_in : ℕ → ℕ
id_in key = key % per_turn

-- the commands that are kept, each behind its id, in the order of their numbers
abbrev pub pending_in : List (ℕ × Owner) → List (ℕ × Owner)
pending_in kept = map (λ (e : ℕ × Owner). (id_in e.0, e.1)) kept

-- The number that the latest command of an id is kept under: the ids up to this one were sent in this turn, the others
-- in the turn before, whose numbers begin here (JDWP, JDWP Packets, id).
abbrev pub key_of : ℕ → ℕ → ℕ → ℕ
key_of former latest id = if nat_le id latest then former + per_turn + id else former + id

-- where the turn before begins, once one more command is sent
abbrev pub former_behind : ℕ → ℕ → ℕ
former_behind former latest = if nat_le turn (latest + 1) then former + per_turn else former

-- what is found is of this kind
abbrev pub is_of : (Owner → Bool) → Option Owner → Bool
is_of kind None = false
is_of kind (Some owner) = kind owner

-- the number of commands sent, whole turns of ids left out, is less than a turn (JDWP, JDWP Packets, id)
abbrev pub IsInTurn : ℕ → Type 0
IsInTurn next = next < turn

-- a command is kept under the number that the latest of its id is
pub record IsKept (former latest key : ℕ) : Type 0 where
  pub named : 0 < id_in key
  pub latest_so : key ≡ key_of former latest (id_in key)

-- The commands are kept by their numbers, so that each has another id, and those of each kind are counted.
pub record IsWindow (kept : List (ℕ × Owner)) (former latest debuggers questions : ℕ) : Type 0 where
  pub ordered : IsStrictlySortedBy nat_cmp (keys_of kept)
  pub each : AllByRecursion (λ (e : ℕ × Owner). IsKept former latest e.0) kept
  pub begins : former % per_turn ≡ 0
  pub within : IsInTurn latest
  pub small : former < 9223372036854775808
  pub debuggers_counted : debuggers ≡ count_by is_debuggers (pending_in kept)
  pub questions_counted : questions ≡ count_by is_question (pending_in kept)

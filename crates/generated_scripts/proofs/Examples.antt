-- Scripts of small numbers, worked out.
use Rattle.std.proofs.Common.{◌≡◌, ℕ, List, [], ◌∷◌, ◌++◌, refl}
use Rattle.std.specs.Prelude.{codes, map, pos}
use Rattle.jdwp_values.specs.declared.class.Line.{Line}
use Rattle.jdwp_values.specs.declared.value.Value.TheVariants.{Int}
use Rattle.serde_json.specs.Data.{Data}
use Rattle.serde_json.specs.Written.{compact_text}
use Rattle.script_rows.specs.declared.script.Turn.{Turn}
use Rattle.script_rows.specs.declared.script.Turn.TheVariants.{Ask, Deliver, Settle}
use Rattle.slot_values.specs.declared.slot.SlotValue.{SlotValue}
use Rattle.world_model.specs.declared.moves.Move.TheVariants.{At, Death}
use Rattle.generated_scripts.specs.Numbers.{for_each_to, next_number, number_behind}
use Rattle.generated_scripts.specs.Turns.{attach_data, breakpoints_data, initialize_data, looking, nothing, one_number}
use Rattle.generated_scripts.specs.Turns.{stack_data, turns}
use Rattle.generated_scripts.specs.Worlds.{line, moves, thread_id}

-- the slot of `n` with its value
abbrev n_is : ℕ → List SlotValue
n_is value = record { slot = pos 0; value = Int (pos value) } ∷ []

-- behind 2 come 59559187 and 1495354192
pub numbers_of_two : number_behind 2 1 ∷ number_behind 2 2 ∷ [] ≡ 59559187 ∷ 1495354192 ∷ []
unfolding next_number
numbers_of_two = refl

-- with one line the thread comes back to it, and then the target ends
pub moves_of_one : moves 1 ≡ At thread_id 0 (n_is 1103527590) ∷ Death ∷ []
unfolding next_number
moves_of_one = refl

-- with two it comes to the second, then to the first
pub moves_of_two : moves 2 ≡ At thread_id 1 (n_is 59559187) ∷ At thread_id 0 (n_is 1495354192) ∷ Death ∷ []
unfolding next_number
moves_of_two = refl

-- the first line stands at the index 0
pub lines_of_two : for_each_to (λ i. line i ∷ []) 2
    ≡ record { index = 0; line = pos 1 } ∷ record { index = 1; line = pos 2 } ∷ []
lines_of_two = refl

-- the second stop has the frame 3, and its variables the number 4
pub look_at_second : looking 2 ≡
    Ask (codes "threads") nothing ∷ Deliver ∷ Ask (codes "stackTrace") stack_data ∷ Deliver
    ∷ Ask (codes "scopes") (one_number (codes "frameId") 3) ∷ Deliver
    ∷ Ask (codes "variables") (one_number (codes "variablesReference") 4) ∷ Deliver
    ∷ Ask (codes "continue") (one_number (codes "threadId") 1) ∷ Settle ∷ []
look_at_second = refl

-- a session of one stop
pub turns_of_one : turns 1 ≡
    Ask (codes "initialize") initialize_data ∷ Deliver ∷ Ask (codes "attach") attach_data ∷ Deliver
    ∷ Ask (codes "setBreakpoints") (breakpoints_data 1) ∷ Deliver ∷ Ask (codes "configurationDone") nothing ∷ Deliver
    ∷ Settle ∷ Ask (codes "threads") nothing ∷ Deliver ∷ Ask (codes "stackTrace") stack_data ∷ Deliver
    ∷ Ask (codes "scopes") (one_number (codes "frameId") 1) ∷ Deliver
    ∷ Ask (codes "variables") (one_number (codes "variablesReference") 2) ∷ Deliver
    ∷ Ask (codes "continue") (one_number (codes "threadId") 1) ∷ Settle
    ∷ Ask (codes "disconnect") nothing ∷ Settle ∷ []
turns_of_one = refl

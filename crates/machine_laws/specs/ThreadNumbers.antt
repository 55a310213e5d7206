-- The numbers of threads, however a session goes on. The law stands at the end, behind what it speaks of.
use Rattle.std.specs.Prelude.{ℕ, ◌≡◌, false, List}
use Rattle.machine_model.specs.Due.{due}
use Rattle.machine_model.specs.Knowing.{HasNumber}
use Rattle.machine_steps.specs.Names.{Act, ThreadId, Want}
use Rattle.machine_model.specs.Runs.{Allows, MayQueue, Message, to_ask}
use Rattle.machine_model.specs.State.{Hand, Machine}

-- from here a session comes to there, by silent steps and by messages
pub data Reaches (here : Machine) : Machine → Type 0 where
  stays : Reaches here here
  goes : {there : Machine} → Reaches here there → (due false there).act ≡ Act.Goes
      → Reaches here (due false there).next
  queues : {there : Machine} {hand : Hand} {queue : List Want} → Reaches here there → MayQueue there hand queue
      → Reaches here (to_ask there hand queue)
  moves : {there next : Machine} {message : Message} → Reaches here there → Allows there message next
      → Reaches here next

-- A thread that has a number keeps it (DAP specification, Types, Thread, id).
abbrev pub KeepsNumbers : Type 0
KeepsNumbers = (here there : Machine) (thread : ThreadId) (number : ℕ) → Reaches here there
    → HasNumber here.state.threads thread number → HasNumber there.state.threads thread number

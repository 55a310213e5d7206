-- The numbers of errors (JDWP, Constants, Error).
use Rattle.std.specs.Prelude.{ℕ, Result, Ok, Err}
use Rattle.jdwp_commands.specs.declared.answer.Answer.{Answer}
use Rattle.jdwp_commands.specs.declared.asked.Replied.{Replied}
use Rattle.jdwp_commands.specs.declared.asked.Replied.TheVariants as replies

-- the thread isn't alive
abbrev pub invalid_thread : ℕ
invalid_thread = 10

-- there is no such object
abbrev pub invalid_object : ℕ
invalid_object = 20

-- there is no such class
abbrev pub invalid_class : ℕ
invalid_class = 21

-- this world has nothing of the kind: what is asked for has another kind, or is not there
abbrev pub not_implemented : ℕ
not_implemented = 99

-- the class file doesn't say it
abbrev pub absent_information : ℕ
absent_information = 101

-- the target has ended
abbrev pub vm_dead : ℕ
vm_dead = 112

-- what was found is answered, and else the error
abbrev pub told : {A : Type 0} → (A → Answer) → Result A ℕ → Replied
told answer (Ok x) = replies.Answer (answer x)
told answer (Err code) = replies.Error code

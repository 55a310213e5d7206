-- What no command asks: a question about null, or a step of it, which may end the target's process, and a question for
-- nothing, which is refused (JDWP, Detailed Command Information).
use Rattle.std.specs.Prelude.{ℕ, zero, suc, ℤ, pos, negsuc, ◌≡◌, ◌&&◌, ◌∷◌, ◌++◌, Bool, true, false, List}
use Rattle.jdwp_commands.specs.declared.question.Question.TheVariants as questions
use Rattle.machine_model.specs.Names.{Effect, Question, Set, TargetCommand, a_question, an_effect}
use Rattle.machine_model.specs.Runs.{Message, Run}
use Rattle.machine_model.specs.State.{Machine, is_empty}
use Rattle.std.specs.Prelude.{not}
use Rattle.wish_sets.specs.declared.wish.Wish.{Wish}
use Rattle.wish_sets.specs.declared.wish.Wish.TheVariants as wish

-- an object, or a class
abbrev pub is_there : ℕ → Bool
is_there zero = false
is_there (suc id) = true

-- one at least
abbrev pub is_some_count : ℤ → Bool
is_some_count (pos zero) = false
is_some_count (pos (suc count)) = true
is_some_count (negsuc count) = false

-- The class above null, and what null is, isn't asked, nor are no frames, no elements, no fields and no slots (JDWP,
-- ClassType command set, Superclass; JDWP, ObjectReference command set, ReferenceType and GetValues; JDWP,
-- StringReference command set, Value; JDWP, ArrayReference command set, Length and GetValues; JDWP, ThreadReference
-- command set, Frames; JDWP, StackFrame command set, GetValues).
abbrev pub is_harmless : Question → Bool
is_harmless (questions.Superclass class) = is_there class.0
is_harmless (questions.ObjectType object) = is_there object.0
is_harmless (questions.StringValue object) = is_there object.0
is_harmless (questions.ArrayLength object) = is_there object.0
is_harmless (questions.GetFields object fields) = is_there object.0 && not (is_empty fields)
is_harmless (questions.GetElements array first length) = is_there array.0 && is_some_count length
is_harmless (questions.GetSlots thread frame slots) = not (is_empty slots)
is_harmless (questions.Frames thread start length) = is_some_count length
is_harmless _ = true

-- no thread has the id 0 (JDWP, EventRequest command set, Set, Step)
abbrev pub is_harmless_wish : Wish → Bool
is_harmless_wish (wish.Step thread depth) = is_there thread.0
is_harmless_wish _ = true

abbrev pub is_harmless_effect : Effect → Bool
is_harmless_effect (Set wanted) = is_harmless_wish wanted
is_harmless_effect _ = true

abbrev pub is_harmless_command : TargetCommand → Bool
is_harmless_command (a_question question) = is_harmless question
is_harmless_command (an_effect effect) = is_harmless_effect effect

-- No such command is sent.
abbrev pub Harmless : Type 0
Harmless = (messages before after : List Message) (m : Machine) (command : TargetCommand) → Run messages m
    → messages ≡ before ++ Message.sends command ∷ after → is_harmless_command command ≡ true

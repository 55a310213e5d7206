-- Of writes to the variables of a frame: when the receiver of its method is asked for. The laws stand at the end, behind
-- what they speak of.
use Rattle.std.specs.Prelude.{◌≡◌, Bool, true, false, List, ℕ}
use Rattle.std.specs.List.{AllByRecursion}
use Rattle.jdwp_commands.specs.declared.question.Question.{Question}
use Rattle.jdwp_commands.specs.declared.question.Question.TheVariants as questions
use Rattle.jdwp_values.specs.declared.value.Value.{Value}
use Rattle.machine_model.specs.Children.{Child, with_this}
use Rattle.machine_model.specs.Plans.{Sight, lacking, need, question_of}
use Rattle.machine_model.specs.Writing.{Writing, child_named, is_this, local_written}
use Rattle.stop_refs.specs.declared.thing.FrameThing.{FrameThing}

-- a question for anything but a frame's receiver (JDWP, StackFrame command set, ThisObject)
abbrev pub spares_receiver : Question → Bool
spares_receiver (questions.ThisObject thread frame) = false
spares_receiver _ = true

-- A write lacks the receiver only where its name is the receiver's.
abbrev pub SparesReceivers : Type 0
SparesReceivers = (sight : Sight) (w : Writing) (frame : FrameThing) (name : List ℕ) → is_this name ≡ false
    → AllByRecursion (λ want. spares_receiver (question_of want) ≡ true) (lacking (need sight (local_written w frame name)))

-- Any other name stands for the same variable with the receiver beside it and without.
abbrev pub NamesOthers : Type 0
NamesOthers = (name : List ℕ) (value : Value) (children : List Child) → is_this name ≡ false
    → child_named name (with_this (value, children)) ≡ child_named name children

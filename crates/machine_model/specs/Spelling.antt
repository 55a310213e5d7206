-- The sizes of ids are replied once, and each command has a spelling with them (JDWP, VirtualMachine command set,
-- IDSizes).
use Rattle.std.specs.Prelude.{◌≡◌, ◌≤◌, ◌∷◌, ◌++◌, Bool, true, List, [], Option, Some, None, cond, length}
use Rattle.std.specs.List.{flat_map}
use Rattle.jdwp_commands.specs.Commands.{FitsCommand}
use Rattle.jdwp_commands.specs.declared.question.Question.TheVariants as questions
use Rattle.jdwp_values.specs.declared.sizes.IdSizes.{IdSizes}
use Rattle.machine_model.specs.Due.{due}
use Rattle.machine_model.specs.Ids.{ids_asked}
use Rattle.machine_model.specs.Names.{TargetCommand, a_question}
use Rattle.machine_model.specs.Replying.{SizesFor, sizes_in, wire}
use Rattle.machine_model.specs.Runs.{Message, Run, said}
use Rattle.machine_model.specs.State.{Machine, SizesRead, is_empty, is_some}

abbrev pub listed : Option SizesRead → List SizesRead
listed None = []
listed (Some sizes) = sizes ∷ []

-- the sizes in a message: those of an answer to IDSizes
abbrev pub sizes_by : Message → List SizesRead
sizes_by (Message.answers (a_question questions.IdSizes) replied) = listed (sizes_in replied)
sizes_by _ = []

-- all sizes that were replied in these messages
abbrev pub all_sizes : List Message → List SizesRead
all_sizes messages = flat_map sizes_by messages

abbrev pub first_sizes : List SizesRead → Option SizesRead
first_sizes [] = None
first_sizes (sizes ∷ later) = Some sizes

-- those that were replied first
abbrev pub sizes_replied : List Message → Option SizesRead
sizes_replied messages = first_sizes (all_sizes messages)

-- The command can be spelled where these sizes were replied: there are some where it has an id, and its body has a
-- spelling with them.
pub record IsSpelled (sizes : Option SizesRead) (command : TargetCommand) : Type 0 where
  pub sized : cond (is_empty (ids_asked (wire command))) true (is_some sizes) ≡ true
  pub fits : (used : IdSizes) → SizesFor sizes used → FitsCommand used (wire command)

-- the sizes are replied at most once; each command that was sent could be spelled by then, and so can one that is due
pub record AreSpelled (messages : List Message) (m : Machine) : Type 0 where
  pub once : length (all_sizes messages) ≤ 1
  pub sent : (before after : List Message) (command : TargetCommand)
      → messages ≡ before ++ Message.sends command ∷ after → IsSpelled (sizes_replied before) command
  pub due : (id_pending : Bool) (command : TargetCommand)
      → said (due id_pending m).act ≡ Some (Message.sends command) → IsSpelled m.state.sizes command

-- This holds in every run.
abbrev pub Spells : Type 0
Spells = (messages : List Message) (m : Machine) → Run messages m → AreSpelled messages m

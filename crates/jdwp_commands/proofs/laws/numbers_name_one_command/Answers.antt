use Rattle.jdwp_commands.specs.Commands.{kind_of}
use Rattle.jdwp_commands.proofs.KindLaws.{kind_back, kind_of-numbers}
use Rattle.jdwp_commands.proofs.laws.numbers_name_one_command.Goals as goal

pub returns-clause-found : goal.returns-clause-found
returns-clause-found c = λ asked. kind_of-numbers (kind_of asked)

pub returns-clause-back : goal.returns-clause-back
returns-clause-back c = kind_back

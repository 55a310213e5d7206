-- What is heard of a class, as the definitions of children read it.
use Rattle.std.proofs.Common.{◌≡◌, List, [], Option, Some, None, option_map, unwrap_or, refl, pos}
use Rattle.jdwp_commands.specs.declared.answer.Answer.{Answer}
use Rattle.jdwp_commands.specs.declared.answer.Answer.TheVariants as answers
use Rattle.jdwp_commands.specs.declared.question.Question.TheVariants as questions
use Rattle.jdwp_values.specs.declared.class.Variable.{Variable}
use Rattle.jdwp_values.specs.declared.id.ClassId.{ClassId}
use Rattle.jdwp_values.specs.declared.id.MethodId.{MethodId}
use Rattle.machine_model.specs.Children.{listed_variables}
use Rattle.machine_model.specs.Facts.{fact_of, variables_in}

-- the variables of a method, by what is heard of them: none where they are absent
pub variables_said : (class : ClassId) (method : MethodId) (heard : Option Answer)
    → listed_variables (fact_of (questions.VariableTable class method) heard) ≡ unwrap_or (variables_in heard) []
variables_said class method heard = by_list (variables_in heard)
  where
    by_list : (found : Option (List Variable))
        → listed_variables (option_map (answers.VariableTable (pos 0)) found) ≡ unwrap_or found []
    by_list None = refl
    by_list (Some variables) = refl

-- those that were learnt
pub variables_learnt : (found : Option (List Variable))
    → listed_variables (option_map (answers.VariableTable (pos 0)) found) ≡ unwrap_or found []
variables_learnt None = refl
variables_learnt (Some variables) = refl

use Rattle.generated_scripts.proofs.NumberLaws.{numbers_small}
use Rattle.generated_scripts.proofs.laws.numbers_stay_small.Goals as goal

pub returns : goal.returns
returns c = numbers_small

use Rattle.std.proofs.Common.{refl}
use Rattle.line_elements.proofs.laws.bits_have_the_spelling_of_their_version.Goals as goal

pub returns-clause-first : goal.returns-clause-first
returns-clause-first c = λ most text. refl

pub returns-clause-second : goal.returns-clause-second
returns-clause-second c = λ most n. refl

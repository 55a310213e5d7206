use Rattle.class_tables.proofs.SignatureLaws.{in_package, in_default_package, has_none, none_has}
use Rattle.class_tables.proofs.laws.a_class_stands_in_the_package_of_its_signature.Goals as goal

pub returns-clause-in_package : goal.returns-clause-in_package
returns-clause-in_package c = λ above name none. in_package above name none

pub returns-clause-in_default_package : goal.returns-clause-in_default_package
returns-clause-in_default_package c = λ name none. in_default_package name none

pub returns-clause-none : goal.returns-clause-none
returns-clause-none c = λ signature. (has_none signature, none_has signature)

use Rattle.std.proofs.Common.{◌≡◌, drop, fold}
use Rattle.machine_model.specs.Classes.{with_listed}
use Rattle.session_facts.proofs.facts.learn_all.Given as goal

abbrev pub invariant-loop-class : goal.invariant-loop-class
invariant-loop-class l =
    fold with_listed l.classes (drop l.class-index l.listed) ≡ fold with_listed l.initial.classes l.listed

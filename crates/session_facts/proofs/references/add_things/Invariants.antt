use Rattle.std.proofs.Common.{◌≡◌, drop}
use Rattle.machine_model.specs.References.{with_things}
use Rattle.session_facts.proofs.references.add_things.Given as goal

abbrev pub invariant-loop-thing : goal.invariant-loop-thing
invariant-loop-thing l = with_things (drop l.thing-index l.things) l.stop ≡ with_things l.things l.initial.stop

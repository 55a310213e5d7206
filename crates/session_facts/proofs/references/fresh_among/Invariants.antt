use Rattle.std.proofs.Common.{◌≡◌, drop}
use Rattle.machine_model.specs.References.{with_things}
use Rattle.session_facts.specs.Numbering.{grown}
use Rattle.session_facts.proofs.references.fresh_among.Given as goal

abbrev pub invariant-loop-thing : goal.invariant-loop-thing
invariant-loop-thing l =
    with_things (drop l.thing-index l.things) (grown l.stop l.fresh.keys) ≡ with_things l.things l.stop

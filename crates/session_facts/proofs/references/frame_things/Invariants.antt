use Rattle.std.proofs.Common.{◌≡◌, ◌++◌, drop, map}
use Rattle.machine_model.specs.declared.parts.ShownFrame.{ShownFrame}
use Rattle.stop_refs.specs.declared.thing.Thing.TheVariants.{Frame as a_frame}
use Rattle.session_facts.proofs.references.frame_things.Given as goal

abbrev pub invariant-loop-shown : goal.invariant-loop-shown
invariant-loop-shown l =
    l.things ++ map (λ (shown : ShownFrame). a_frame shown.frame) (drop l.shown-index l.frames)
    ≡ map (λ (shown : ShownFrame). a_frame shown.frame) l.frames

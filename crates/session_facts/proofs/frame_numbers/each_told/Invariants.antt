use Rattle.std.proofs.Common.{◌≡◌, ◌++◌, drop, map}
use Rattle.machine_model.specs.Frames.{frame_told}
use Rattle.session_facts.proofs.frame_numbers.each_told.Given as goal

abbrev pub invariant-loop-shown : goal.invariant-loop-shown
invariant-loop-shown l =
    l.told ++ map (frame_told l.options l.stop) (drop l.shown-index l.frames)
    ≡ map (frame_told l.options l.stop) l.frames

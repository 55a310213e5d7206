use Rattle.std.proofs.Common.{◌≡◌, map, take}
use Rattle.world_model.specs.Emitting.{event_of}
use Rattle.world_model.proofs.hits.events_of.Given as goal

-- the events so far are told
abbrev pub invariant-loop-hit : goal.invariant-loop-hit
invariant-loop-hit l = l.events ≡ map (event_of l.world l.happened) (take l.hit-index l.those)

use Rattle.message_bodies.proofs.HearLaws.{raws}
use Rattle.message_bodies.specs.Hearing.{AreReadOff}
use Rattle.message_bodies.proofs.hearing.read_kept.Given as goal

-- those before were read
abbrev pub invariant-loop-place : goal.invariant-loop-place
invariant-loop-place l = AreReadOff l.initial.sizes l.initial.waiting.items l.waiting.items

-- each time one less is left
abbrev pub decreases-loop-place : goal.decreases-loop-place
decreases-loop-place l = raws l.waiting.items

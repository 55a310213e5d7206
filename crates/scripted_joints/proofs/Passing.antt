-- What an obeying target does between two commands, and what it tells meanwhile: it runs, tells something, or both.
use Rattle.std.proofs.Common.{Option, Some, None}
use Rattle.jdwp_events.specs.declared.composite.Composite.{Composite}
use Rattle.joint_model.specs.Obeying.{Emits, Runs}
use Rattle.world_model.specs.declared.world.World.{World}

pub data Passes (w : World) : Option Composite → World → Type 0 where
  stays : Passes w None w
  runs : {now : World} → Runs w now → Passes w None now
  tells : {composite : Composite} {now : World} → Emits w composite now → Passes w (Some composite) now
  runs_and_tells : {composite : Composite} {middle now : World} → Runs w middle → Emits middle composite now
      → Passes w (Some composite) now
  tells_and_runs : {composite : Composite} {middle now : World} → Emits w composite middle → Runs middle now
      → Passes w (Some composite) now

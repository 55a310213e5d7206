-- How a program's next move is made.
use Rattle.std.proofs.Common.{◌≡◌, List, ◌∷◌, drop, ap, ◌∙◌, Option}
use Rattle.std.specs.Prelude.{Ok}
use Rattle.jdwp_events.specs.declared.composite.Composite.{Composite}
use Rattle.world_model.specs.declared.moves.Move.{Move}
use Rattle.world_model.specs.declared.world.World.{World}
use Rattle.world_model.specs.Moving.{moved}
use Rattle.target_server.specs.Flights.{Flight, CanTellIf, told_if}
use Rattle.target_server.specs.Joints.{Joint, Advances, if_made, next_move}

-- the joint with this world, this program and these bytes on their way
abbrev pub with_these : Joint → World → List Move → Flight → Joint
with_these j w program flight =
    record { world = w; program = program; begin = j.begin; unserved = j.unserved; flight = flight }

pub advanced_so : (old : Joint) (next : Move) (w : World) (told : Option Composite) (program : List Move)
    (flight : Flight) → old.program ≡ next ∷ drop 1 old.program → moved old.world next ≡ Ok (w, told)
    → program ≡ drop 1 old.program → flight ≡ told_if w.sizes told old.flight → CanTellIf w.sizes told
    → Advances old (with_these old w program flight)
advanced_so old next w told program flight front made rest sent spelled = record {
  made = (w, told);
  can = ap (λ (p : List Move). next_move old.world p) front ∙ ap if_made made;
  spelled = spelled;
  same = ap (λ (p : List Move). with_these old w p flight) rest
      ∙ ap (λ (f : Flight). with_these old w (drop 1 old.program) f) sent;
}

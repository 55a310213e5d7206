-- What the look-up that judges hits finds, by the rows of the world in which its questions are answered. The law stands
-- here.
use Rattle.std.specs.Prelude.{◌≡◌, List, Some}
use Rattle.judged_worlds.specs.HitRows.{world_hits}
use Rattle.machine_model.specs.Judging.{hits_plan}
use Rattle.machine_model.specs.Plans.{of_world}
use Rattle.machine_model.specs.RuleTables.{Rules}
use Rattle.machine_model.specs.declared.parts.Strike.{Strike}
use Rattle.shown_worlds.specs.Laws.{IsLive}
use Rattle.world_model.specs.Replies.{reply_of}
use Rattle.world_model.specs.declared.world.World.{World}

-- Hits come to what they come to in the world.
abbrev pub JudgesHits : Type 0
JudgesHits = (w : World) (rules : Rules) (strikes : List Strike) → IsLive w
    → of_world (reply_of w) (hits_plan rules strikes) ≡ Some (world_hits w rules strikes)

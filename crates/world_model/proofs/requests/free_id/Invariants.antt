use Rattle.std.proofs.Common.{◌≡◌, drop}
use Rattle.world_model.specs.Requests.{free_from}
use Rattle.world_model.proofs.requests.free_id.Given as goal

-- the number is found from the one that was reached on, in the attempts that are left
abbrev pub invariant-loop-attempt : goal.invariant-loop-attempt
invariant-loop-attempt l =
    free_from (drop l._attempt-index l.requests) l.requests l.id ≡ free_from l.requests l.requests l.world.next_request

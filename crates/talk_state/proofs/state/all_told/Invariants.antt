use Rattle.std.proofs.Common.{◌≡◌, drop}
use Rattle.std.specs.List.{list_all}
use Rattle.machine_model.specs.Breakpoints.{has_id}
use Rattle.talk_state.proofs.state.all_told.Given as goal

-- those so far were told
abbrev pub invariant-loop-entry : goal.invariant-loop-entry
invariant-loop-entry l =
    list_all (λ entry. has_id l.bound entry.id) l.entries
    ≡ list_all (λ entry. has_id l.bound entry.id) (drop l.entry-index l.entries)

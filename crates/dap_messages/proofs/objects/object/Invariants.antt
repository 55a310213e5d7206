use Rattle.std.proofs.Common.{◌≡◌}
use Rattle.serde_json.specs.Data.{no_members}
use Rattle.serde_json.specs.View.{members_view}
use Rattle.dap_messages.proofs.Placings.{placed}
use Rattle.dap_messages.proofs.objects.object.Given as goal

-- the members that are left, put into the map, give what all members do
abbrev pub invariant-loop-name : goal.invariant-loop-name
invariant-loop-name l =
    placed l.name-iterator.rest.items (members_view l.map.entries) ≡ placed l.fn.members.items no_members

use Rattle.pending_table.proofs.TableLaws.{room_left, id_left, window_sent}
use Rattle.pending_table.proofs.window.Pending.send.Goals as goal

pub invariant_of-self : goal.invariant_of-self
invariant_of-self c =
    window_sent c.self.inside.sent.items _ _ _ c.self.invariant
    (room_left _ _ _ c.self.invariant c.self.view_is c.requires) c.push.ensures.items
    (rw (c.next_id-id.ensures, ← c.self.view_is)
    (id_left c.self.inside.sent.items c.self.inside.next _ c.self.view_is c.requires))

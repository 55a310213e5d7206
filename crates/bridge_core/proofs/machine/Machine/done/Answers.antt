use Rattle.std.proofs.Common.{sym, ap, ◌∙◌}
use Rattle.machine_model.specs.State.{Machine}
use Rattle.bridge_core.proofs.TalkLaws.{ends_by_effect}
use Rattle.bridge_core.proofs.machine.Machine.done.Goals as goal

pub returns-then-is_dead : goal.returns-then-is_dead
returns-then-is_dead c = λ hand effect flight.
    let held = ap (λ (m : Machine). m.hand) c.self.view_is ∙ flight.held in
    ends_by_effect c.end_now.result c.args.self.now c.end_now.new.self hand effect c.args.replied c.note_done.new.hand
    flight c.requires.near (sym (c.if-not-is_leaving.ensures hand effect held flight.flying))
    (sym c.if-is_dead.ensures) (c.note_done.ensures hand effect held flight.flying) (rw (← c.self.view_is) c.end_now.ensures)

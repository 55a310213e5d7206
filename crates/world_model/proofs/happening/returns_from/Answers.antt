use Rattle.std.proofs.Common.{◌≡◌, ◌∙◌, ap, sym, Some, false, option_copied}
use Rattle.world_model.specs.Happenings.{frames_outside, stands}
use Rattle.world_model.proofs.happening.returns_from.Goals as goal

pub returns-in-Some : goal.returns-in-Some
returns-in-Some c =
    let row = c.in-Some.row.now in
    let found = sym c.caller_of.ensures ∙ ap (λ found. option_copied found) c.in-Some.is in
    let outside = c.frames_outside-frames.ensures
    ∙ ap (λ rows. frames_outside rows c.args.thread c.args.top.now.id) c.as_slice.ensures in
    rw found (ap Some (c.stands.ensures
    ∙ ap (λ n. stands c.args.world.now c.args.thread row.class row.method row.index n false) outside))

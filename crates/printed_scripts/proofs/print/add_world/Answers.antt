use Rattle.printed_scripts.proofs.TextLaws.{world_added}
use Rattle.printed_scripts.proofs.print.add_world.Goals as goal

pub returns : goal.returns
returns c =
    world_added c.args.world.now _ _ _ _ _ _ _ _ _ _ _
    (rw c.as_slice.ensures at c.in_ok-add_rows.ensures)
    (rw c.as_slice-2.ensures at c.in_ok-add_rows-2.ensures)
    (rw c.as_slice-3.ensures at c.in_ok-add_rows-3.ensures)
    (rw c.as_slice-4.ensures at c.in_ok-add_rows-4.ensures)
    (rw c.as_slice-5.ensures at c.in_ok-add_rows-5.ensures)
    (rw c.as_slice-6.ensures at c.in_ok-add_rows-6.ensures)
    (rw c.as_slice-7.ensures at c.in_ok-add_rows-7.ensures)
    (rw c.as_slice-8.ensures at c.in_ok-add_rows-8.ensures)
    (rw c.as_slice-9.ensures at c.in_ok-add_rows-9.ensures)
    (rw c.as_slice-10.ensures at c.in_ok-add_rows-10.ensures)

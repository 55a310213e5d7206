use Rattle.printed_scripts.proofs.TextLaws.{script_added}
use Rattle.printed_scripts.proofs.print.print_script.Goals as goal

pub returns : goal.returns
returns c =
    script_added c.args.script.now _ _ _ _ _ _ _ _ _ c.new-text.ensures c.in_ok-add_head.ensures c.in_ok-add_sizes.ensures
    c.in_ok-add_limits.ensures c.in_ok-add_world.ensures c.in_ok-add_begin.ensures
    (rw c.as_slice.ensures at c.in_ok-add_rows.ensures)
    (rw c.as_slice-2.ensures at c.in_ok-add_rows-2.ensures)
    c.in_ok-add_end.ensures

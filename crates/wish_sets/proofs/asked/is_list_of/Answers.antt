-- A key with another end is that of another file.
use Rattle.std.proofs.Common.{◌-◌, ◌∙◌, ap, drop, length, sym}
use Rattle.std.specs.Prelude.{bytes_eq}
use Rattle.wish_sets.specs.Wished.{has_entries}
use Rattle.wish_sets.proofs.FileLaws.{not_its_file}
use Rattle.wish_sets.proofs.asked.is_list_of.Goals as goal

pub returns-else-ends_with : goal.returns-else-ends_with
returns-else-ends_with c =
    not_its_file (has_entries c.args.list.now) c.args.list.now.0 c.args.path.now c.args.file.now
    (ap (λ key. bytes_eq (drop (length key - length c.args.file.now) key) c.args.file.now) (sym c.as_bytes.ensures)
    ∙ (sym c.ends_with.ensures ∙ c.if-ends_with.false))

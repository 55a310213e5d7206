-- One entry more has its package.
use Rattle.std.proofs.Common.{◌++◌, ◌∷◌, ◌∙◌, [], suc, add-one, ap, append_assoc, arith, drop, drop-cons, false, pos, sym}
use Rattle.wish_sets.specs.declared.entry.LineEntry.{LineEntry}
use Rattle.wish_sets.specs.declared.wish.Wish.TheVariants as wishes
use Rattle.wish_sets.specs.Counts.{list_entry_watches}
use Rattle.wish_sets.specs.Names.{key_parts, package_name}
use Rattle.wish_sets.proofs.share.add_list_watches.Goals as goal

-- whichever
some_entry : LineEntry
some_entry = record { id = 0; line = pos 0; plain = false }

pub loop-entry-preserved : goal.loop-entry-preserved
loop-entry-preserved c =
    let key = c.args.key.now in
    let entries = c.args.entries.now in
    let at = c.loop-entry._entry-index in
    let watch = wishes.Watch (package_name (key_parts key).package_path) in
    let head = drop-cons entries at some_entry (omega arith) in
    rw (add-one, c.in_ok-push.ensures.items, c.in_ok-package_name.ensures, c.key_package.ensures)
    (append_assoc c.loop-entry.found.items (watch ∷ []) (list_entry_watches (key, drop (suc at) entries))
    ∙ (ap (λ rest. c.loop-entry.found.items ++ list_entry_watches (key, rest)) (sym head)
    ∙ c.loop-entry.invariant))

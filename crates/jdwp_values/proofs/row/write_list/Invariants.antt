use Rattle.std.proofs.Common.{◌≡◌, ◌++◌, length, take}
use Rattle.std.specs.Int.{bytes_high_first}
use Rattle.std.specs.List.{flat_map}
use Rattle.jdwp_values.proofs.row.write_list.Given as goal

abbrev pub invariant-loop-item : goal.invariant-loop-item
invariant-loop-item g l =
    l.writer ≡ record l.fn.writer {
      bytes = l.fn.writer.bytes ++
          (bytes_high_first 4 (length l.items) ++ flat_map (g.T.Row.spell l.fn.writer.sizes)
          (take l.item-index l.items));
    }

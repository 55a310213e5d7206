use Rattle.std.proofs.Common.{◌≡◌, ◌++◌, length, take}
use Rattle.std.specs.Int.{bytes_high_first}
use Rattle.std.specs.List.{flat_map}
use Rattle.jdwp_commands.specs.Regions.{spell_element}
use Rattle.jdwp_commands.proofs.region.write_elements.Given as goal

abbrev pub invariant-loop-value : goal.invariant-loop-value
invariant-loop-value l =
    l.writer ≡ record l.fn.writer {
      bytes = l.fn.writer.bytes ++
          (bytes_high_first 4 (length l.values) ++ flat_map (spell_element l.tag l.fn.writer.sizes)
          (take l.value-index l.values));
    }

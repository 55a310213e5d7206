-- The name is that of no file so far.
use Rattle.std.proofs.Common.{◌≡◌, drop}
use Rattle.wire_core.specs.Files.{bytes_under}
use Rattle.wire_core.proofs.memory_files.look_up.Given as goal

abbrev pub invariant-loop-file : goal.invariant-loop-file
invariant-loop-file l = bytes_under l.name (drop l.file-index l.files) ≡ bytes_under l.name l.files

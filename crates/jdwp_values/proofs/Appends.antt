-- What is written part by part is the row's spelling.
use Rattle.std.proofs.Common.{append_assoc}
use Rattle.std.proofs.lemmas.List.{append-nil}

pub ruleset appends = (append_assoc, append-nil)

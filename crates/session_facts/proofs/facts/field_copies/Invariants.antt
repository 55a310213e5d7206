use Rattle.std.proofs.Common.{◌≡◌, take}
use Rattle.session_facts.proofs.facts.field_copies.Given as goal

abbrev pub invariant-loop-field : goal.invariant-loop-field
invariant-loop-field l = l.copies ≡ take l.field-index l.fields

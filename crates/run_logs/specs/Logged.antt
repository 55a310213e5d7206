-- A log that is kept as runs, as its callers see it.
use Rattle.std.specs.Prelude.{ℕ, List}
use Rattle.wire_core.specs.declared.outside.Entry.{Entry}

-- a log: its entries, in order, and how many more can be added without memory
pub record Logged : Type 0 where
  pub entries : List Entry
  pub room : ℕ

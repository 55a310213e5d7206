-- What wires tell of themselves, as they keep it.
use Rattle.std.specs.Prelude.{ℕ, ◌≡◌, ◌+◌, ◌≤◌, true, List, [], Option, Some}
use Rattle.wire_core.specs.Links.{fresh_link, open_count, outside_with, raised}
use Rattle.wire_core.specs.Names.{both_or_one, names_of}
use Rattle.wire_core.specs.Outside.{Outside}
use Rattle.wire_journals.specs.declared.journal.Journal.{Journal}

-- all of it, the log among it
abbrev pub outside_in : Journal → Outside
outside_in j = outside_with (Some j.log.entries) j.waits j.links j.open_faults (names_of j.asked)

-- these names were asked for in vain
abbrev pub asked_in_vain : Option (List ℕ) → List ℕ → Outside → Outside
asked_in_vain listen target o =
    record o { open_faults = raised o.open_faults; asked = both_or_one listen target }

-- there is room for an entry beside the failures
abbrev pub HasRoom : Journal → Type 0
HasRoom j = open_count j.links + 1 ≤ j.log.room

-- nothing was logged, counted or asked for, and both sides are open
pub record IsNewJournal (j : Journal) : Type 0 where
  pub log : (outside_in j).log ≡ Some []
  pub waits : (outside_in j).waits ≡ 0
  pub client : (outside_in j).client ≡ fresh_link true
  pub target : (outside_in j).target ≡ fresh_link true
  pub open_faults : (outside_in j).open_faults ≡ 0
  pub asked : (outside_in j).asked ≡ []

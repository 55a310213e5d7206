-- Wires that replay a session log: what they tell, and what is left of the log.
use Rattle.std.specs.Prelude.{ℕ, ◌≡◌, ◌++◌, Bool, true, false, List, ◌∷◌, []}
use Rattle.script_wires.specs.ScriptWires.{is_alone}
use Rattle.wire_core.specs.Links.{Counts}
use Rattle.wire_core.specs.Outside.{Adds, Outside, SameWaits, entry_of}
use Rattle.wire_core.specs.declared.links.Links.{Links}
use Rattle.wire_core.specs.declared.outside.Entry.{Entry}
use Rattle.wire_core.specs.declared.outside.Entry.TheVariants.{Failed}
use Rattle.wire_core.specs.declared.outside.Side.{Side}
use Rattle.wire_core.specs.declared.outside.Happening.{Happening}
use Rattle.wire_core.specs.declared.outside.Happening.TheVariants.{Failed as fails}
use Rattle.wire_journals.specs.Journals.{outside_in}
use Rattle.file_wires.specs.Course.{both_open, came, course}
use Rattle.file_wires.specs.Replaying.{Comes, left_at, open_by}
use Rattle.file_wires.specs.declared.log_wires.LogWires.{LogWires}

-- what the wires tell of themselves
abbrev pub told_by : LogWires → Outside
told_by w = outside_in w.journal

-- their links, and their log
abbrev pub links_of : LogWires → Links
links_of w = w.journal.links

abbrev pub entries_in : LogWires → List Entry
entries_in w = w.journal.log.entries

-- whether the target alone was asked for
abbrev pub is_reached : LogWires → Bool
is_reached w = is_alone (told_by w).asked

-- whether a link failed since memory was refused to the wires
abbrev pub is_refused : LogWires → Bool
is_refused w = w.refused

-- what is left of the log
abbrev pub left_in_wires : LogWires → List Entry
left_in_wires w = left_at w.place w.runs

-- what is still to come
abbrev pub ahead : LogWires → List Entry
ahead w = course (open_by (links_of w)) (left_in_wires w)

-- The wires were made over this log, whatever was asked of them: where both sides were asked for, or none, what came
-- and what is still to come are its course, unless memory was refused.
abbrev pub IsReplayOf : List Entry → LogWires → Type 0
IsReplayOf log w =
    is_reached w ≡ false → is_refused w ≡ false → came (entries_in w) ++ ahead w ≡ course both_open log

-- what they were made over they are over still
abbrev pub StaysReplay : LogWires → LogWires → Type 0
StaysReplay old new = (log : List Entry) → IsReplayOf log old → IsReplayOf log new

-- memory was refused to the wires: a side's link failed, with nothing else logged
pub record Refuses (old new : LogWires) (side : Side) : Type 0 where
  pub log : Adds (told_by old) (told_by new) (Failed side ∷ [])
  pub links : Counts (told_by old) (told_by new) (fails side)
  pub waits : SameWaits (told_by old) (told_by new)
  pub refused : is_refused new ≡ true

-- what is left of the log gave what came
pub record GivesNext (old new : LogWires) (buffer : List ℕ) (happening : Happening) : Type 0 where
  pub comes : Comes (links_of old) buffer happening (left_in_wires old) (left_in_wires new)
  pub log : Adds (told_by old) (told_by new) (entry_of buffer happening ∷ [])
  pub links : Counts (told_by old) (told_by new) happening
  pub refused : is_refused new ≡ is_refused old

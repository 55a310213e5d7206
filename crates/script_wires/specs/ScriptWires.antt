-- Wires over a script: what they tell, where their session stands, and what each call makes of both.
use Rattle.std.specs.Prelude.{ℕ, ◌≡◌, Bool, false, true, ◌⊎◌, List, [], ◌∷◌, Some, Result, Ok, Err}
use Rattle.wire_core.specs.declared.links.Links.{Links}
use Rattle.wire_core.specs.declared.outside.Side.{Side}
use Rattle.wire_core.specs.declared.outside.Side.TheVariants.{Client}
use Rattle.wire_core.specs.declared.outside.Happening.{Happening}
use Rattle.wire_core.specs.declared.outside.Happening.TheVariants.{Failed as fails}
use Rattle.wire_core.specs.declared.outside.Entry.{Entry}
use Rattle.wire_core.specs.declared.outside.Entry.TheVariants.{Out, Failed}
use Rattle.wire_core.specs.declared.outside.SendFailed.{SendFailed}
use Rattle.wire_core.specs.Outside.{Outside, Adds, entry_of}
use Rattle.wire_core.specs.Links.{Keeps, Counts, first_open, fresh_link}
use Rattle.script_rows.specs.declared.script.Script.{Script}
use Rattle.script_wires.specs.declared.wires.ScriptWires.{ScriptWires}
use Rattle.wire_journals.specs.Journals.{outside_in}
use Rattle.script_wires.specs.Played.{Played, SendsTo}
use Rattle.script_wires.specs.Playing.{Playing, beginning, closed}
use Rattle.script_wires.specs.Plays.{playing}
use Rattle.script_wires.specs.Schedules.{Comes}

-- what the wires tell of themselves, their log among it
abbrev pub outside_of : ScriptWires → Outside
outside_of w = outside_in w.journal

-- their links
abbrev pub links_of : ScriptWires → Links
links_of w = w.journal.links

-- where the session stands
abbrev pub playing_of : ScriptWires → Playing
playing_of w = playing w.play (links_of w)

-- whether a link failed since memory was refused to the wires
abbrev pub is_refused : ScriptWires → Bool
is_refused w = w.refused

-- wires of which nothing was asked yet: both sides are open, and the session stands at the beginning of the script
pub record IsNew (script : Script) (w : ScriptWires) : Type 0 where
  pub log : (outside_of w).log ≡ Some []
  pub waits : (outside_of w).waits ≡ 0
  pub client : (outside_of w).client ≡ fresh_link true
  pub target : (outside_of w).target ≡ fresh_link true
  pub open_faults : (outside_of w).open_faults ≡ 0
  pub asked : (outside_of w).asked ≡ []
  pub playing : playing_of w ≡ beginning script
  pub refused : is_refused w ≡ false

-- whether one name was asked for, the target's
abbrev pub is_alone : List (List ℕ) → Bool
is_alone [] = false
is_alone (target ∷ []) = true
is_alone (listen ∷ target ∷ names) = false

-- the session goes on nowhere
pub record KeepsPlaying (old new : ScriptWires) : Type 0 where
  pub log : (outside_of new).log ≡ (outside_of old).log
  pub playing : playing_of new ≡ playing_of old
  pub refused : is_refused new ≡ is_refused old
  pub alone : is_alone (outside_of new).asked ≡ is_alone (outside_of old).asked

-- the client's side is shut, and the session goes on nowhere else
pub record LeavesClient (old new : ScriptWires) : Type 0 where
  pub log : (outside_of new).log ≡ (outside_of old).log
  pub playing : playing_of new ≡ closed Client (playing_of old)
  pub refused : is_refused new ≡ is_refused old
  pub was_none : (outside_of old).asked ≡ []
  pub alone : is_alone (outside_of new).asked ≡ true

-- memory was refused to the wires: a side's link failed, with nothing else logged
pub record Refuses (old new : ScriptWires) (side : Side) : Type 0 where
  pub log : Adds (outside_of old) (outside_of new) (Failed side ∷ [])
  pub links : Counts (outside_of old) (outside_of new) (fails side)
  pub refused : is_refused new ≡ true

-- what the schedule gives next came
pub record GivesNext (old new : ScriptWires) (buffer : List ℕ) (happening : Happening) : Type 0 where
  pub comes : Comes (playing_of old) (entry_of buffer happening) (playing_of new)
  pub log : Adds (outside_of old) (outside_of new) (entry_of buffer happening ∷ [])
  pub links : Counts (outside_of old) (outside_of new) happening
  pub refused : is_refused new ≡ is_refused old

-- memory was refused for it: the client's link fails where it is open, else the target's
pub record Withholds (old new : ScriptWires) (happening : Happening) : Type 0 where
  pub refuses : Refuses old new (first_open (links_of old))
  pub failure : happening ≡ fails (first_open (links_of old))

abbrev pub NextOfScript : ScriptWires → ScriptWires → List ℕ → Happening → Type 0
NextOfScript old new buffer happening = GivesNext old new buffer happening ⊎ Withholds old new happening

-- all bytes went out
pub record SendsAll (old new : ScriptWires) (side : Side) (bytes : List ℕ) : Type 0 where
  pub sends : SendsTo side (playing_of old) bytes (playing_of new)
  pub log : Adds (outside_of old) (outside_of new) (Out side bytes ∷ [])
  pub links : Keeps (outside_of old) (outside_of new)
  pub refused : is_refused new ≡ is_refused old

-- a send fails only where memory is refused
abbrev pub SendsOfScript : ScriptWires → ScriptWires → Side → List ℕ → Result Unit SendFailed → Type 0
SendsOfScript old new side bytes (Ok u) = SendsAll old new side bytes
SendsOfScript old new side bytes (Err e) = Refuses old new side

-- wires that were made over a script, whatever was asked of them
pub data IsOver (script : Script) : ScriptWires → Type 0 where
  made : {w : ScriptWires} → IsNew script w → IsOver script w
  connects : {old new : ScriptWires} → IsOver script old → KeepsPlaying old new → IsOver script new
  reaches : {old new : ScriptWires} → IsOver script old → LeavesClient old new → IsOver script new
  hears : {old new : ScriptWires} (buffer : List ℕ) (happening : Happening) → IsOver script old
      → NextOfScript old new buffer happening → IsOver script new
  sends : {old new : ScriptWires} (side : Side) (bytes : List ℕ) (result : Result Unit SendFailed) → IsOver script old
      → SendsOfScript old new side bytes result → IsOver script new

-- the log of wires to which no memory was refused is one of the script
pub record HasPlayed (script : Script) (w : ScriptWires) : Type 0 where
  pub log : List Entry
  pub whole : (outside_of w).log ≡ Some log
  pub played : Played script (is_alone (outside_of w).asked) log (playing_of w)

-- wires that were over a script are over it still
abbrev pub StaysOver : ScriptWires → ScriptWires → Type 0
StaysOver old new = (script : Script) → IsOver script old → IsOver script new

-- Wires in memory: what they tell, what they still hold, and what each call makes of both.
use Rattle.std.specs.Prelude.{ℕ, ◌≡◌, ◌<◌, ◌+◌, ◌-◌, Bool, false, true, ◌⊎◌, List, [], ◌∷◌, length, take, min, Option, Some, None}
use Rattle.std.specs.Prelude.{Result, Ok, Err}
use Rattle.wire_core.specs.declared.outside.Side.{Side}
use Rattle.wire_core.specs.declared.outside.Side.TheVariants.{Client, Target}
use Rattle.wire_core.specs.declared.outside.Happening.{Happening}
use Rattle.wire_core.specs.declared.outside.Happening.TheVariants.{Failed as fails}
use Rattle.wire_core.specs.declared.outside.Entry.{Entry}
use Rattle.wire_core.specs.declared.outside.Entry.TheVariants.{In, Out, Shut, Failed, Quiet}
use Rattle.wire_core.specs.declared.outside.SendFailed.{SendFailed}
use Rattle.wire_core.specs.declared.script.Step.{Step}
use Rattle.wire_core.specs.declared.script.Cut.{Cut}
use Rattle.wire_core.specs.declared.memory_wires.MemoryWires.{MemoryWires}
use Rattle.wire_core.specs.Outside.{Outside, Adds, entry_of, broken_send, other_side}
use Rattle.wire_core.specs.Links.{raised, Keeps, Counts, outside_with, open_count, first_open, shut_link, IsFresh}
use Rattle.wire_core.specs.Log.{entries, HasRoom}
use Rattle.wire_core.specs.Names.{names_of}
use Rattle.wire_core.specs.SendCounts.{count_to}
use Rattle.wire_core.specs.Script.{steps_from, due, comes, behind, kept_of}

-- what the wires tell of themselves, their log among it
abbrev pub outside_of : MemoryWires → Outside
outside_of w = outside_with (Some (entries w.log)) w.waits w.links w.open_faults (names_of w.asked)

-- the steps that are still to be given
abbrev pub steps_of : MemoryWires → List Step
steps_of w = steps_from w.place w.steps

-- the sends that fail
abbrev pub failing_of : MemoryWires → List Cut
failing_of w = w.failing

-- how many sends a side had
abbrev pub sends_to : Side → MemoryWires → ℕ
sends_to side w = count_to side w.sends

-- whether a link failed since memory was refused to the log
abbrev pub is_refused : MemoryWires → Bool
is_refused w = w.refused

-- wires of which nothing was asked yet: nothing is logged or counted
pub record IsNew (w : MemoryWires) (given : List Step) (cuts : List Cut) (is_open : Bool) : Type 0 where
  pub log : (outside_of w).log ≡ Some []
  pub waits : (outside_of w).waits ≡ 0
  pub links : IsFresh w.links is_open
  pub open_faults : (outside_of w).open_faults ≡ 0
  pub asked : (outside_of w).asked ≡ []
  pub steps : steps_of w ≡ given
  pub failing : failing_of w ≡ cuts
  pub client_sends : sends_to Client w ≡ 0
  pub target_sends : sends_to Target w ≡ 0
  pub refused : is_refused w ≡ false

-- the sends so far, and those that fail, stay
pub record KeepsSends (old new : MemoryWires) : Type 0 where
  pub failing : failing_of new ≡ failing_of old
  pub client : sends_to Client new ≡ sends_to Client old
  pub target : sends_to Target new ≡ sends_to Target old

-- one send more to a side
pub record CountsSend (old new : MemoryWires) (side : Side) : Type 0 where
  pub failing : failing_of new ≡ failing_of old
  pub side_sends : sends_to side new ≡ raised (sends_to side old)
  pub other_sends : sends_to (other_side side) new ≡ sends_to (other_side side) old

-- nothing was given, sent, counted or refused
pub record KeepsScript (old new : MemoryWires) : Type 0 where
  pub client : (outside_of new).client ≡ (outside_of old).client
  pub target : (outside_of new).target ≡ (outside_of old).target
  pub steps : steps_of new ≡ steps_of old
  pub sends : KeepsSends old new
  pub refused : is_refused new ≡ is_refused old

-- the client's link is shut, and nothing else was given, sent, counted or refused
pub record ShutsClient (old new : MemoryWires) : Type 0 where
  pub client : (outside_of new).client ≡ shut_link (outside_of old).client
  pub target : (outside_of new).target ≡ (outside_of old).target
  pub steps : steps_of new ≡ steps_of old
  pub sends : KeepsSends old new
  pub refused : is_refused new ≡ is_refused old

-- memory was refused to the log: a side's link failed, with nothing else logged
pub record Refuses (old new : MemoryWires) (side : Side) : Type 0 where
  pub log : Adds (outside_of old) (outside_of new) (Failed side ∷ [])
  pub links : Counts (outside_of old) (outside_of new) (fails side)
  pub steps : steps_of new ≡ steps_of old
  pub refused : is_refused new ≡ true

-- what is due came
pub record Gives (old new : MemoryWires) (buffer : List ℕ) (happening : Happening) : Type 0 where
  pub comes : entry_of buffer happening ≡ comes old.links (length buffer) (due old.links (steps_of old))
  pub log : Adds (outside_of old) (outside_of new) (entry_of buffer happening ∷ [])
  pub links : Counts (outside_of old) (outside_of new) happening
  pub steps : steps_of new ≡ behind happening (due old.links (steps_of old))
  pub refused : is_refused new ≡ is_refused old

-- memory has to be asked for to log this: for a copy of bytes, or for a place, where the log has none to spare. The end
-- or the failure of an open side has the place that is kept for it.
abbrev pub NeedsMemory : MemoryWires → Entry → Type 0
NeedsMemory w (In side bytes) = Unit {0}
NeedsMemory w (Out side bytes) = Unit {0}
NeedsMemory w (Shut side) = ⊥
NeedsMemory w (Failed side) = ⊥
NeedsMemory w Quiet = ¬ HasRoom w.log (open_count w.links + 1)

-- memory was refused for what is due: the client's link fails where it is open, else the target's
pub record Withholds (old new : MemoryWires) (buffer : List ℕ) (happening : Happening) : Type 0 where
  pub needs : NeedsMemory old (comes old.links (length buffer) (due old.links (steps_of old)))
  pub refuses : Refuses old new (first_open old.links)
  pub failure : happening ≡ fails (first_open old.links)

-- what is due comes, or memory is refused for it
abbrev pub NextInMemory : MemoryWires → MemoryWires → List ℕ → Happening → Type 0
NextInMemory old new buffer happening = Gives old new buffer happening ⊎ Withholds old new buffer happening

-- all bytes went out
pub record LogsSend (old new : MemoryWires) (side : Side) (bytes : List ℕ) : Type 0 where
  pub log : Adds (outside_of old) (outside_of new) (Out side bytes ∷ [])
  pub links : Keeps (outside_of old) (outside_of new)
  pub steps : steps_of new ≡ steps_of old
  pub refused : is_refused new ≡ is_refused old

-- these bytes went out, if any, and then the side's link failed
pub record BreaksSend (old new : MemoryWires) (side : Side) (bytes : List ℕ) : Type 0 where
  pub log : Adds (outside_of old) (outside_of new) (broken_send side bytes)
  pub links : Counts (outside_of old) (outside_of new) (fails side)
  pub steps : steps_of new ≡ steps_of old
  pub refused : is_refused new ≡ is_refused old

-- memory was refused to the log for bytes that went out; where none did, none is asked for
abbrev pub RefusesBytes : MemoryWires → MemoryWires → Side → List ℕ → Type 0
RefusesBytes old new side bytes = (0 < length bytes) × Refuses old new side

-- the bytes that a cut keeps of a send, at most all but the last
abbrev pub kept_bytes : ℕ → List ℕ → List ℕ
kept_bytes kept bytes = take (min kept (length bytes - 1)) bytes

-- what a send makes of the wires, by the first cut that names it
abbrev pub SendsBy : Option ℕ → MemoryWires → MemoryWires → Side → List ℕ → Result Unit SendFailed → Type 0
SendsBy None old new side bytes (Ok u) = LogsSend old new side bytes
SendsBy None old new side bytes (Err e) = RefusesBytes old new side bytes
SendsBy (Some kept) old new side bytes (Ok u) = ⊥
SendsBy (Some kept) old new side bytes (Err e) =
    BreaksSend old new side (kept_bytes kept bytes) ⊎ RefusesBytes old new side (kept_bytes kept bytes)

-- the send that a cut names fails, and no other but where memory is refused to the log
abbrev pub SendsInMemory : MemoryWires → MemoryWires → Side → List ℕ → Result Unit SendFailed → Type 0
SendsInMemory old new side bytes result =
    SendsBy (kept_of side (sends_to side old) (failing_of old)) old new side bytes result

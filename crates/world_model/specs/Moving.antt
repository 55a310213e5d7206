-- What becomes of a target by a move of its program, and the events that tell of it (JDWP, Event command set,
-- Composite).
use Rattle.std.specs.Prelude.{◌≡◌, ℕ, ◌+◌, Bool, true, not, ◌==◌, ◌&&◌, if◌then◌else◌, List, [], ◌∷◌, ◌++◌, map}
use Rattle.std.specs.Prelude.{filter, Option, Some, None, Result, Ok, Err}
use Rattle.std.specs.List.{list_any}
use Rattle.std.specs.Option.{option_map_or}
use Rattle.std.specs.Ordering.{int_eq}
use Rattle.std.specs.Result.{result_unwrap_or}
use Rattle.jdwp_values.specs.declared.id.ClassId.{ClassId}
use Rattle.jdwp_values.specs.declared.id.FrameId.{FrameId}
use Rattle.jdwp_values.specs.declared.id.ThreadId.{ThreadId}
use Rattle.jdwp_events.specs.declared.composite.Composite.{Composite}
use Rattle.world_model.specs.declared.happening.Happening.{Happening}
use Rattle.world_model.specs.declared.moves.Move.{Move}
use Rattle.world_model.specs.declared.moves.Move.TheVariants as moves
use Rattle.world_model.specs.declared.moves.MoveTrouble.{MoveTrouble}
use Rattle.world_model.specs.declared.moves.MoveTrouble.TheVariants as troubles
use Rattle.world_model.specs.declared.rows.Put.{Put}
use Rattle.slot_values.specs.declared.slot.SlotValue.{SlotValue}
use Rattle.world_model.specs.declared.rows.WorldClass.{WorldClass}
use Rattle.world_model.specs.declared.rows.WorldFrame.{WorldFrame}
use Rattle.world_model.specs.declared.rows.WorldThread.{WorldThread}
use Rattle.world_model.specs.declared.world.World.{World}
use Rattle.world_model.specs.Effects.{with_put, is_frame}
use Rattle.world_model.specs.Emitting.{emitted}
use Rattle.world_model.specs.Happenings.{what_happens, stored}
use Rattle.world_model.specs.Requests.{innermost, suspends}
use Rattle.world_model.specs.Storing.{kept_value}

-- The world behind a move --------------------------------------------------------------------------------------------

-- a slot with its value as it is kept
abbrev pub held_slot : World → SlotValue → SlotValue
held_slot w row = record row { value = result_unwrap_or (kept_value w row.value) row.value }

-- whether a slot is named among some
abbrev pub is_named : List SlotValue → SlotValue → Bool
is_named slots held = list_any (λ row. int_eq row.slot held.slot) slots

-- slots, of which those that are named get their values
abbrev pub slots_behind : World → List SlotValue → List SlotValue → List SlotValue
slots_behind w slots held = filter (λ row. not (is_named slots row)) held ++ map (held_slot w) slots

-- a frame, which stands at an index where it is this one
abbrev pub frame_behind : World → ThreadId → FrameId → ℕ → List SlotValue → WorldFrame → WorldFrame
frame_behind w thread top index slots row =
    if is_frame thread top row
    then record row { index = index; slots = slots_behind w slots row.slots } else row

-- the innermost frame stands at an index
abbrev pub gone_on : World → ThreadId → ℕ → List SlotValue → WorldFrame → World
gone_on w thread index slots top =
    record w { frames = map (frame_behind w thread top.id index slots) w.frames }

-- there is a new innermost frame
abbrev pub entered : World → WorldFrame → World
entered w frame = record w { frames = frame ∷ w.frames }

-- the innermost frame goes
abbrev pub frames_left : ThreadId → FrameId → List WorldFrame → List WorldFrame
frames_left thread top frames = filter (λ row. not (is_frame thread top row)) frames

-- a class, which is prepared where it is this one
abbrev pub class_behind : ClassId → WorldClass → WorldClass
class_behind class row = if row.id.0 == class.0 then record row { prepared = true } else row

-- a class is prepared
abbrev pub prepared : World → ClassId → World
prepared w class = record w { classes = map (class_behind class) w.classes }

-- the threads but this one
abbrev pub threads_left : ThreadId → List WorldThread → List WorldThread
threads_left thread threads = filter (λ row. not (row.id.0 == thread.0)) threads

-- the frames of all threads but this one
abbrev pub others_left : ThreadId → List WorldFrame → List WorldFrame
others_left thread frames = filter (λ row. not (row.thread.0 == thread.0)) frames

-- what was found is put to a field
abbrev pub put_behind : World → Result Put ℕ → World
put_behind w (Ok put) = with_put w put
put_behind w (Err code) = w

-- the world behind each move that can be made
abbrev pub behind : World → Move → World
behind w (moves.At thread index slots) = option_map_or (gone_on w thread index slots) (innermost w thread) w
behind w (moves.Call thread frame class method index this slots) = entered w (record {
  thread = thread;
  id = frame;
  class = class;
  method = method;
  index = index;
  this = this;
  slots = map (held_slot w) slots;
})
behind w (moves.Return thread) =
    option_map_or (λ top. record w { frames = frames_left thread top.id w.frames }) (innermost w thread) w
behind w (moves.Prepare class thread) = prepared w class
behind w (moves.Throw thread object class method index) = w
behind w (moves.Start thread name) = record w { threads = w.threads ++ record { id = thread; name = name } ∷ [] }
behind w (moves.Die thread) =
    record w { threads = threads_left thread w.threads; frames = others_left thread w.frames }
behind w (moves.Store object field value) = put_behind w (stored w object field value)
behind w moves.Death = record w { dead = true }

-- Moves --------------------------------------------------------------------------------------------------------------

-- how often all threads are suspended behind these events: once more where their policy says so (JDWP, Constants,
-- SuspendPolicy, ALL)
abbrev pub count_behind : ℕ → Option Composite → ℕ
count_behind count None = count
count_behind count (Some composite) = if suspends composite.policy 2 then count + 1 else count

-- a move that can be made; and why another is not
abbrev pub made : World → Move → Option Happening → Result (World × Option Composite) MoveTrouble
made w next None = Err troubles.BadMove
made w next (Some happened) =
    let told = emitted w happened in Ok (record (behind w next) { count = count_behind w.count told }, told)

-- A move of the program, with the events that tell of it. It waits while all threads are suspended, and a target that
-- has ended makes none.
abbrev pub moved : World → Move → Result (World × Option Composite) MoveTrouble
moved w next =
    if w.dead then Err troubles.Ended
    else if w.count == 0 then made w next (what_happens w next) else Err troubles.Held

-- the result is this one, unless memory was refused; each error leaves the world as it was
abbrev pub IsMoved : World → World → Result (Option Composite) MoveTrouble → Result (World × Option Composite) MoveTrouble
    → Type 0
IsMoved old now (Ok told) result = result ≡ Ok (now, told)
IsMoved old now (Err troubles.NoMemory) result = now ≡ old
IsMoved old now (Err troubles.Ended) result = (result ≡ Err troubles.Ended) × (now ≡ old)
IsMoved old now (Err troubles.Held) result = (result ≡ Err troubles.Held) × (now ≡ old)
IsMoved old now (Err troubles.BadMove) result = (result ≡ Err troubles.BadMove) × (now ≡ old)

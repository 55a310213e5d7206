-- What a world says of its threads and their frames (JDWP, Detailed Command Information, command sets ThreadReference
-- and StackFrame).
use Rattle.std.specs.Prelude.{ℕ, ℤ, pos, negsuc, nat_abs, int_lt, nat_lt, Bool, ◌==◌, ◌&&◌, ◌||◌, ◌^◌, if◌then◌else◌}
use Rattle.std.specs.Prelude.{List, map, filter, find, take, drop, length, Option, Some, None, option_map}
use Rattle.std.specs.Prelude.{option_and_then}
use Rattle.std.specs.Prelude.{is_some, Result, Ok, Err, ok_or}
use Rattle.std.specs.Ordering.{int_eq}
use Rattle.jdwp_values.specs.declared.id.FrameId.{FrameId}
use Rattle.jdwp_values.specs.declared.id.ThreadId.{ThreadId}
use Rattle.jdwp_values.specs.declared.value.Value.{Value}
use Rattle.jdwp_commands.specs.declared.listed.Frame.{Frame}
use Rattle.jdwp_commands.specs.declared.listed.Slot.{Slot}
use Rattle.slot_values.specs.declared.slot.SlotValue.{SlotValue}
use Rattle.world_model.specs.declared.rows.WorldFrame.{WorldFrame}
use Rattle.world_model.specs.declared.rows.WorldThread.{WorldThread}
use Rattle.world_model.specs.declared.world.World.{World}
use Rattle.world_model.specs.Classes.{tag_in, and_then}
use Rattle.world_model.specs.Codes.{invalid_thread, not_implemented}
use Rattle.world_model.specs.Kinds.{is_of_byte}
use Rattle.world_model.specs.Scans.{last_of, all_of}

-- the thread with an id, while it is alive
abbrev pub thread_in : World → ThreadId → Option WorldThread
thread_in w thread = find (λ row. row.id.0 == thread.0) w.threads

-- whether it is
abbrev pub is_alive : World → ThreadId → Bool
is_alive w thread = is_some (thread_in w thread)

-- the name of a thread (JDWP, ThreadReference command set, Name)
abbrev pub name_in : World → ThreadId → Result (List ℕ) ℕ
name_in w thread = ok_or (option_map (λ row. row.name) (thread_in w thread)) invalid_thread

-- frames may be asked of a thread that is alive, and only while it is suspended (JDWP, ThreadReference command set,
-- Frames)
abbrev pub may_ask : World → ThreadId → Result (Unit {0}) ℕ
may_ask w thread = if is_alive w thread then if w.count == 0 then Err not_implemented else Ok tt else Err invalid_thread

-- a frame and where it stands (JDWP, Detailed Command Information, common data types, location)
abbrev pub shown_frame : World → WorldFrame → Frame
shown_frame w row = record {
  id = row.id;
  at = record { tag = tag_in w row.class; class = row.class; method = row.method; index = row.index };
}

-- the frames of a thread, the innermost first
abbrev pub frames_of : World → ThreadId → List Frame
frames_of w thread = map (shown_frame w) (filter (λ row. row.thread.0 == thread.0) w.frames)

-- at most so many of them; all where the number is -1
abbrev pub at_most : ℤ → List Frame → List Frame
at_most n frames = if int_lt n (pos 0) then frames else take (nat_abs n) frames

-- from a start on, which may stand right behind the last one
abbrev pub frames_from : List Frame → ℤ → ℤ → Option (List Frame)
frames_from frames start n =
    if int_lt start (pos 0) || int_lt n (negsuc 0) || nat_lt (length frames) (nat_abs start) then None
    else Some (at_most n (drop (nat_abs start) frames))

-- some frames of a thread (JDWP, ThreadReference command set, Frames)
abbrev pub frames_in : World → ThreadId → ℤ → ℤ → Result (List Frame) ℕ
frames_in w thread start n =
    and_then (λ _. ok_or (frames_from (frames_of w thread) start n) not_implemented) (may_ask w thread)

-- a number that an int has room for (JDWP, Detailed Command Information, common data types, int)
abbrev pub counted : ℕ → Result ℕ ℕ
counted n = if nat_lt n (2 ^ 31) then Ok n else Err not_implemented

-- how many frames a thread has (JDWP, ThreadReference command set, FrameCount)
abbrev pub frame_count_in : World → ThreadId → Result ℕ ℕ
frame_count_in w thread = and_then (λ _. counted (length (frames_of w thread))) (may_ask w thread)

-- the frame of a thread with an id, if it is there
abbrev pub frame_in : World → ThreadId → FrameId → Option WorldFrame
frame_in w thread frame = find (λ row. (row.thread.0 == thread.0) && (row.id.0 == frame.0)) w.frames

-- the same, or why nothing is said of it
abbrev pub frame_at : World → ThreadId → FrameId → Result WorldFrame ℕ
frame_at w thread frame = and_then (λ _. ok_or (frame_in w thread frame) not_implemented) (may_ask w thread)

-- the value that a slot has
abbrev pub slot_in : List SlotValue → ℤ → Option Value
slot_in slots slot = option_map (λ row. row.value) (last_of (λ row. int_eq row.slot slot) slots)

-- the same, where it can lie where the byte of this tag says what lies there
abbrev pub if_of_byte : ℕ → Value → Option Value
if_of_byte byte value = if is_of_byte byte value then Some value else None

-- the value that is asked for (JDWP, StackFrame command set, GetValues, slot and sigbyte)
abbrev pub slot_value : List SlotValue → Slot → Option Value
slot_value slots asked = option_and_then (if_of_byte asked.tag) (slot_in slots asked.slot)

-- the values of some slots of a frame (JDWP, StackFrame command set, GetValues)
abbrev pub slots_in : World → ThreadId → FrameId → List Slot → Result (List Value) ℕ
slots_in w thread frame asked =
    and_then (λ row. ok_or (all_of (slot_value row.slots) asked) not_implemented) (frame_at w thread frame)

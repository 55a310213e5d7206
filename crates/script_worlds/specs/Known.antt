-- Which rows name what was given, and give what was not. A program's moves give ids too: a thread's as it starts, and a
-- frame's as a method is called. They stay given where the thread has ended or the frame is gone.
use Rattle.std.specs.Prelude.{ℕ, Bool, true, false, not, ◌==◌, ◌&&◌, ◌||◌, List, is_some}
use Rattle.std.specs.List.{list_all, list_any}
use Rattle.std.specs.Option.{option_map_or}
use Rattle.jdwp_values.specs.declared.id.ClassId.{ClassId}
use Rattle.jdwp_values.specs.declared.id.FrameId.{FrameId}
use Rattle.jdwp_values.specs.declared.id.MethodId.{MethodId}
use Rattle.jdwp_values.specs.declared.id.ObjectId.{ObjectId}
use Rattle.jdwp_values.specs.declared.id.ThreadId.{ThreadId}
use Rattle.jdwp_values.specs.declared.value.Value.{Value}
use Rattle.world_model.specs.declared.moves.Move.{Move}
use Rattle.world_model.specs.declared.moves.Move.TheVariants as moves
use Rattle.world_model.specs.declared.rows.Put.{Put}
use Rattle.slot_values.specs.declared.slot.SlotValue.{SlotValue}
use Rattle.world_model.specs.declared.rows.WorldArray.{WorldArray}
use Rattle.world_model.specs.declared.rows.WorldFrame.{WorldFrame}
use Rattle.world_model.specs.declared.world.World.{World}
use Rattle.world_model.specs.Happenings.{is_nowhere}
use Rattle.world_model.specs.Storing.{referred}
use Rattle.script_worlds.specs.Given.{is_class, is_method, is_thread, is_object, is_frame, field_in_object}

-- Ids that moves give ------------------------------------------------------------------------------------------------

-- a thread starts
abbrev pub starts : ℕ → Move → Bool
starts id (moves.Start thread name) = thread.0 == id
starts id (moves.At thread index slots) = false
starts id (moves.Call thread frame class method index this slots) = false
starts id (moves.Return thread) = false
starts id (moves.Prepare class thread) = false
starts id (moves.Throw thread object class method index) = false
starts id (moves.Die thread) = false
starts id (moves.Store object field value) = false
starts id moves.Death = false

-- a frame is entered
abbrev pub enters : ℕ → Move → Bool
enters id (moves.Call thread frame class method index this slots) = frame.0 == id
enters id (moves.Start thread name) = false
enters id (moves.At thread index slots) = false
enters id (moves.Return thread) = false
enters id (moves.Prepare class thread) = false
enters id (moves.Throw thread object class method index) = false
enters id (moves.Die thread) = false
enters id (moves.Store object field value) = false
enters id moves.Death = false

-- What a world and the moves of its program give ---------------------------------------------------------------------

abbrev pub is_given_object : World → List Move → ObjectId → Bool
is_given_object w program id = is_object w id || list_any (starts id.0) program

abbrev pub is_given_thread : World → List Move → ThreadId → Bool
is_given_thread w program thread = is_thread w thread || list_any (starts thread.0) program

abbrev pub is_given_frame : World → List Move → FrameId → Bool
is_given_frame w program frame = is_frame w frame || list_any (enters frame.0) program

-- null, or an object that was given
abbrev pub is_known : World → List Move → ObjectId → Bool
is_known w program id = (id.0 == 0) || is_given_object w program id

-- a value whose object, where it has one, is known
abbrev pub is_known_value : World → List Move → Value → Bool
is_known_value w program value = option_map_or (is_known w program) (referred value) true

abbrev pub are_known_slots : World → List Move → List SlotValue → Bool
are_known_slots w program slots = list_all (λ row. is_known_value w program row.value) slots

-- Rows of a world ----------------------------------------------------------------------------------------------------

-- the class and the values of an array were given
abbrev pub array_is_known : World → List Move → WorldArray → Bool
array_is_known w program row = is_class w row.class && list_all (is_known_value w program) row.values

-- the field of an object that a value is put to, and the value
abbrev pub put_is_known : World → List Move → Put → Bool
put_is_known w program row =
    is_some (field_in_object w row.object row.field) && is_known_value w program row.value

-- the thread, the method, the object and the values of a frame
abbrev pub frame_is_known : World → List Move → WorldFrame → Bool
frame_is_known w program row =
    (is_thread w row.thread && is_method w row.class row.method)
    && (is_known w program row.this && are_known_slots w program row.slots)

-- Moves --------------------------------------------------------------------------------------------------------------

-- what a move gives was not given
abbrev pub move_is_new : World → List Move → Move → Bool
move_is_new w program (moves.Call thread frame class method index this slots) = not (is_given_frame w program frame)
move_is_new w program (moves.Start thread name) = not (is_given_object w program (record { 0 = thread.0 }))
move_is_new w program (moves.At thread index slots) = true
move_is_new w program (moves.Return thread) = true
move_is_new w program (moves.Prepare class thread) = true
move_is_new w program (moves.Throw thread object class method index) = true
move_is_new w program (moves.Die thread) = true
move_is_new w program (moves.Store object field value) = true
move_is_new w program moves.Death = true

-- the thread, the method, the object and the values of a frame that is entered
unfoldable pub call_is_known : World → List Move → ThreadId → ClassId → MethodId → ObjectId → List SlotValue → Bool
call_is_known w program thread class method this slots =
    (is_given_thread w program thread && is_method w class method)
    && (is_known w program this && are_known_slots w program slots)

-- the thread and the object that it throws, and where that is caught
unfoldable pub throw_is_known : World → List Move → ThreadId → ObjectId → ClassId → MethodId → ℕ → Bool
throw_is_known w program thread object class method index =
    (is_given_thread w program thread && is_given_object w program object)
    && (is_nowhere class method index || is_method w class method)

-- what a move names was given
abbrev pub move_is_known : World → List Move → Move → Bool
move_is_known w program (moves.At thread index slots) =
    is_given_thread w program thread && are_known_slots w program slots
move_is_known w program (moves.Call thread frame class method index this slots) =
    call_is_known w program thread class method this slots
move_is_known w program (moves.Return thread) = is_given_thread w program thread
move_is_known w program (moves.Prepare class thread) = is_class w class && is_given_thread w program thread
move_is_known w program (moves.Throw thread object class method index) =
    throw_is_known w program thread object class method index
move_is_known w program (moves.Start thread name) = true
move_is_known w program (moves.Die thread) = is_given_thread w program thread
move_is_known w program (moves.Store object field value) =
    is_some (field_in_object w object field) && is_known_value w program value
move_is_known w program moves.Death = true

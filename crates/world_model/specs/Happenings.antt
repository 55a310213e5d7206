-- What happens in a target as a move is made; nothing where the move can't be made in this world (JDWP, Event command
-- set, Composite).
use Rattle.std.specs.Prelude.{ℕ, ◌+◌, ◌^◌, nat_lt, Bool, true, false, not, ◌==◌, ◌&&◌, ◌||◌, if◌then◌else◌}
use Rattle.std.specs.Prelude.{List, find, count_by, Option, Some, None, option_map, option_and_then, is_some}
use Rattle.std.specs.Prelude.{Result, Ok, Err}
use Rattle.std.specs.List.{list_all, list_any}
use Rattle.std.specs.Option.{option_map_or}
use Rattle.std.specs.Result.{is_ok}
use Rattle.jdwp_values.specs.declared.id.ClassId.{ClassId}
use Rattle.jdwp_values.specs.declared.id.FieldId.{FieldId}
use Rattle.jdwp_values.specs.declared.id.FrameId.{FrameId}
use Rattle.jdwp_values.specs.declared.id.MethodId.{MethodId}
use Rattle.jdwp_values.specs.declared.id.ObjectId.{ObjectId}
use Rattle.jdwp_values.specs.declared.id.ThreadId.{ThreadId}
use Rattle.jdwp_values.specs.declared.location.Location.{Location}
use Rattle.jdwp_values.specs.declared.tag.Tag.{Tag}
use Rattle.jdwp_values.specs.declared.value.Value.{Value}
use Rattle.jdwp_values.specs.Parts.{tag_of_value}
use Rattle.world_model.specs.declared.happening.Happening.{Happening}
use Rattle.world_model.specs.declared.happening.Happening.TheVariants as happenings
use Rattle.world_model.specs.declared.moves.Move.{Move}
use Rattle.world_model.specs.declared.moves.Move.TheVariants as moves
use Rattle.world_model.specs.declared.rows.Put.{Put}
use Rattle.slot_values.specs.declared.slot.SlotValue.{SlotValue}
use Rattle.world_model.specs.declared.rows.WorldField.{WorldField}
use Rattle.world_model.specs.declared.rows.WorldFrame.{WorldFrame}
use Rattle.world_model.specs.declared.rows.WorldObject.{WorldObject}
use Rattle.world_model.specs.declared.world.World.{World}
use Rattle.world_model.specs.Classes.{class_in, tag_in, method_at, and_then}
use Rattle.world_model.specs.Codes.{not_implemented}
use Rattle.world_model.specs.Kinds.{same_kind, kind_in}
use Rattle.world_model.specs.Objects.{reference_to, reference_in, is_there, object_at, field_of}
use Rattle.world_model.specs.Requests.{innermost, frames_under, line_at}
use Rattle.world_model.specs.Storing.{kept_value, put_of}
use Rattle.world_model.specs.Threads.{is_alive}

-- Where threads stand ------------------------------------------------------------------------------------------------

-- a place in a method's code (JDWP, Detailed Command Information, common data types, location)
abbrev pub place_at : World → ClassId → MethodId → ℕ → Location
place_at w class method index = record { tag = tag_in w class; class = class; method = method; index = index }

-- a thread stands at a place, with so many frames, and has come there or come back
abbrev pub stands : World → ThreadId → ClassId → MethodId → ℕ → ℕ → Bool → Happening
stands w thread class method index frames comes =
    happenings.Stands thread (place_at w class method index) frames (line_at w class method index) comes

-- the innermost frame of a thread that is alive
abbrev pub running : World → ThreadId → Option WorldFrame
running w thread = if is_alive w thread then innermost w thread else None

-- a frame of a thread other than its innermost one
abbrev pub is_outer : ThreadId → FrameId → WorldFrame → Bool
is_outer thread top row = (row.thread.0 == thread.0) && not (row.id.0 == top.0)

-- the frame that called a thread's innermost one
abbrev pub caller_of : World → ThreadId → FrameId → Option WorldFrame
caller_of w thread top = find (is_outer thread top) w.frames

-- how many frames a thread has beside its innermost one
abbrev pub frames_outside : List WorldFrame → ThreadId → FrameId → ℕ
frames_outside frames thread top = count_by (is_outer thread top) frames

-- What can be made ---------------------------------------------------------------------------------------------------

-- an id that takes so many bytes (JDWP, VirtualMachine command set, IDSizes)
abbrev pub fits : ℕ → ℕ → Bool
fits size id = nat_lt id (256 ^ size)

-- whether the value of a slot is there
abbrev pub can_hold : World → SlotValue → Bool
can_hold w row = is_ok (kept_value w row.value)

-- a frame's id that no frame has
abbrev pub is_new_frame : World → FrameId → Bool
is_new_frame w frame = fits w.sizes.frame frame.0 && not (list_any (λ row. row.id.0 == frame.0) w.frames)

-- whether a thread can call a method: it is alive, has room for a frame, and the method is there
abbrev pub can_enter : World → ThreadId → ClassId → MethodId → Bool
can_enter w thread class method =
    is_alive w thread && (nat_lt (frames_under w.frames thread + 1) (2 ^ 31) && is_ok (method_at w class method))

-- whether a new frame can have this id, this object and these slots
abbrev pub can_begin : World → FrameId → ObjectId → List SlotValue → Bool
can_begin w frame this slots = is_new_frame w frame && (is_some (reference_in w this) && list_all (can_hold w) slots)

-- a class that is there and not prepared
abbrev pub is_unprepared : World → ClassId → Bool
is_unprepared w class = option_map_or (λ row. not row.prepared) (class_in w class) false

-- a thread's id that nothing has, and no frame is of
abbrev pub is_new_thread : World → ThreadId → Bool
is_new_thread w thread =
    (not (thread.0 == 0) && fits w.sizes.object thread.0)
    && (not (is_there w (record { 0 = thread.0 })) && (frames_under w.frames thread == 0))

-- a place with all ids and its index 0 is none (JDWP, Event command set, Composite, Exception, catchLocation)
abbrev pub is_nowhere : ClassId → MethodId → ℕ → Bool
is_nowhere class method index = (class.0 == 0) && ((method.0 == 0) && (index == 0))

-- where an exception is caught, or that it is caught nowhere; nothing where the method isn't there
abbrev pub catch_in : World → ClassId → MethodId → ℕ → Option (Option Location)
catch_in w class method index =
    if is_nowhere class method index then Some None
    else if is_ok (method_at w class method) then Some (Some (place_at w class method index)) else None

-- a value of a field's kind as it is put there
abbrev pub value_for : World → Value → Option Tag → Result Value ℕ
value_for w value None = Err not_implemented
value_for w value (Some tag) =
    if same_kind tag (tag_of_value value) then kept_value w value else Err not_implemented

-- what a move puts to a field that an object may have
abbrev pub put_for : World → ObjectId → FieldId → Value → Option WorldField → Result Put ℕ
put_for w object field value None = Err not_implemented
put_for w object field value (Some row) = put_of object field (value_for w value (kind_in row.field.signature))

-- what a move puts to a field of an object
abbrev pub stored : World → ObjectId → FieldId → Value → Result Put ℕ
stored w id field value =
    and_then (λ object. put_for w object.id field value (field_of w object.class field)) (object_at w id)

-- What happens -------------------------------------------------------------------------------------------------------

-- the thread goes on in its innermost frame, and stands at an index
abbrev pub at_index : World → ThreadId → ℕ → WorldFrame → Happening
at_index w thread index row = stands w thread row.class row.method index (frames_under w.frames thread) true

-- it comes back from its innermost frame, and stands where that was called
abbrev pub returns_from : World → ThreadId → WorldFrame → Option Happening
returns_from w thread top = option_map
    (λ row. stands w thread row.class row.method row.index (frames_outside w.frames thread top.id) false)
    (caller_of w thread top.id)

-- an exception is thrown in a frame
abbrev pub throws_in : World → ThreadId → Option Value → Option (Option Location) → WorldFrame → Option Happening
throws_in w thread exception catch row = option_and_then (λ value. option_map
    (happenings.Throws thread (place_at w row.class row.method row.index) value) catch) exception

-- what happens, if it can
abbrev pub only_if : Bool → Happening → Option Happening
only_if can happened = if can then Some happened else None

-- what happens by each move
abbrev pub what_happens : World → Move → Option Happening
what_happens w (moves.At thread index slots) =
    if list_all (can_hold w) slots then option_map (at_index w thread index) (running w thread) else None
what_happens w (moves.Call thread frame class method index this slots) =
    only_if (can_enter w thread class method && can_begin w frame this slots)
    (stands w thread class method index (frames_under w.frames thread + 1) true)
what_happens w (moves.Return thread) = option_and_then (returns_from w thread) (running w thread)
what_happens w (moves.Prepare class thread) =
    only_if (is_alive w thread && is_unprepared w class) (happenings.Prepares thread class)
what_happens w (moves.Throw thread object class method index) = option_and_then
    (throws_in w thread (reference_to w object) (catch_in w class method index)) (running w thread)
what_happens w (moves.Start thread name) =
    only_if (is_new_thread w thread) (happenings.Starts thread)
what_happens w (moves.Die thread) = only_if (is_alive w thread) (happenings.Dies thread)
what_happens w (moves.Store object field value) =
    only_if (is_ok (stored w object field value)) happenings.Stores
what_happens w moves.Death = Some happenings.Ends

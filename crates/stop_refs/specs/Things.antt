-- What numbers stand for, and when two such things are one.
use Rattle.std.specs.Prelude.{ℕ, Bool, List, [], ◌∷◌, nat_eq, Result, Ok, Err}
use Rattle.std.specs.Cmp.Lexicographic.{pointwise}
use Rattle.std.specs.Ordering.{on}
use Rattle.jdwp_values.specs.Tags.{byte_of_type_tag}
use Rattle.jdwp_values.specs.declared.id.ObjectId.{ObjectId}
use Rattle.stop_refs.specs.declared.thing.FrameThing.{FrameThing}
use Rattle.stop_refs.specs.declared.thing.Thing.{Thing}
use Rattle.stop_refs.specs.declared.thing.Thing.TheVariants.{Frame, Locals, Object, Array}
use Rattle.stop_refs.specs.declared.fault.RefFault.{RefFault}
use Rattle.stop_refs.specs.declared.fault.RefFault.TheVariants.{WrongKind}

-- a frame by its thread, by its id, which is that of its thread alone, and by where it stands (JDWP, Detailed Command
-- Information, common data types, frameID)
abbrev pub frame_key : FrameThing → List ℕ
frame_key frame =
    frame.thread.0 ∷ frame.frame.0 ∷ frame.at.class.0 ∷ frame.at.method.0 ∷ frame.at.index
    ∷ byte_of_type_tag frame.at.tag ∷ []

-- an object by its id, as long as the key of a frame
abbrev pub object_key : ObjectId → List ℕ
object_key object = object.0 ∷ 0 ∷ 0 ∷ 0 ∷ 0 ∷ 0 ∷ []

-- a thing by its kind, and by what it is of
abbrev pub thing_key : Thing → List ℕ
thing_key (Frame frame) = 0 ∷ frame_key frame
thing_key (Locals frame) = 1 ∷ frame_key frame
thing_key (Object object) = 2 ∷ object_key object
thing_key (Array array) = 3 ∷ object_key array

-- two things are one where their keys are
abbrev pub same_thing : Thing → Thing → Bool
same_thing = on thing_key (pointwise nat_eq)

-- a thing where a frame is asked for (DAP, Requests, Scopes, frameId)
abbrev pub as_frame : Thing → Result FrameThing RefFault
as_frame (Frame frame) = Ok frame
as_frame (Locals frame) = Err WrongKind
as_frame (Object object) = Err WrongKind
as_frame (Array array) = Err WrongKind

-- a thing where something with variables in it is asked for (DAP, Requests, Variables, variablesReference)
abbrev pub as_container : Thing → Result Thing RefFault
as_container (Frame frame) = Err WrongKind
as_container (Locals frame) = Ok (Locals frame)
as_container (Object object) = Ok (Object object)
as_container (Array array) = Ok (Array array)

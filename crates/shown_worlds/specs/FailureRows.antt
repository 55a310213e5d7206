-- With which error a target refuses what a look-up can't do without, by the rows of its world (JDWP, Error Constants).
use Rattle.std.specs.Prelude.{ℕ, not, Bool, if◌then◌else◌, List, [], ◌∷◌, bytes_eq, filter, find, is_some, map, Option}
use Rattle.std.specs.Prelude.{Some, None, Ok, Err}
use Rattle.std.specs.List.{list_all}
use Rattle.std.specs.Option.{option_map_or}
use Rattle.dap_messages.specs.declared.requests.Filter.{Filter}
use Rattle.field_exprs.specs.declared.expr.Expr.{Expr}
use Rattle.field_exprs.specs.declared.expr.Head.{Head}
use Rattle.field_exprs.specs.declared.expr.Head.TheVariants as heads
use Rattle.field_exprs.specs.declared.expr.Hop.{Hop}
use Rattle.jdwp_values.specs.declared.class.Variable.{Variable}
use Rattle.jdwp_values.specs.declared.id.ObjectId.{ObjectId}
use Rattle.jdwp_values.specs.declared.id.ThreadId.{ThreadId}
use Rattle.jdwp_values.specs.declared.value.Value.{Value}
use Rattle.shown_worlds.specs.ChildRows.{Child, child_shown, children_of, frame_row, scope_of, this_of}
use Rattle.shown_worlds.specs.ExpressionRows.{Sought, head_in, step_on}
use Rattle.shown_worlds.specs.Facts.{if_null}
use Rattle.shown_worlds.specs.Paging.{page}
use Rattle.stop_refs.specs.declared.thing.FrameThing.{FrameThing}
use Rattle.stop_refs.specs.declared.thing.Thing.{Thing}
use Rattle.stop_refs.specs.declared.thing.Thing.TheVariants as things
use Rattle.world_model.specs.Codes.{invalid_object, invalid_thread, not_implemented}
use Rattle.world_model.specs.Objects.{is_there}
use Rattle.world_model.specs.Storing.{referred}
use Rattle.world_model.specs.Threads.{is_alive}
use Rattle.world_model.specs.declared.world.World.{World}

-- no error (JDWP, Error Constants, NONE)
abbrev pub none : ℕ
none = 0

-- Objects and frames --------------------------------------------------------------------------------------------------

-- why nothing is said of an object: it isn't there, or it is of another kind (JDWP, Error Constants, INVALID_OBJECT)
abbrev pub why_no_object : World → ObjectId → ℕ
why_no_object w id = if is_there w id then not_implemented else invalid_object

-- Why a value isn't shown, or has no such child: nothing is said of the object that it refers to. Null has no type where
-- the array that it stands in isn't there.
abbrev pub why_nothing : World → Option ObjectId → ℕ
why_nothing w None = none
why_nothing w (Some id) = if_null id.0 invalid_object (why_no_object w id)

abbrev pub why_not_shown : World → Value → ℕ
why_not_shown w value = why_nothing w (referred value)

-- Why nothing is said of a thread's frames: it has ended, or else it runs or has no such frame (JDWP, ThreadReference
-- command set, Frames).
abbrev pub why_no_frames : World → ThreadId → ℕ
why_no_frames w thread = if is_alive w thread then not_implemented else invalid_thread

-- why the receiver of a frame isn't told: the frame may not be looked at, or the object isn't there (JDWP, StackFrame
-- command set, ThisObject)
abbrev pub why_no_receiver : World → FrameThing → ℕ
why_no_receiver w frame = option_map_or (λ row. invalid_object) (frame_row w frame) (why_no_frames w frame.thread)

-- Children ------------------------------------------------------------------------------------------------------------

-- why the children of a container aren't told; a frame itself has none
abbrev pub why_no_children : World → Thing → ℕ
why_no_children w (things.Frame frame) = none
why_no_children w (things.Locals frame) = why_no_receiver w frame
why_no_children w (things.Object id) = why_no_object w id
why_no_children w (things.Array id) = why_no_object w id

-- it has a value there (JDWP, commands GetValues of the command sets StackFrame, ObjectReference and ArrayReference)
abbrev pub has_value : Child → Bool
has_value child = is_some child.value

-- why a child isn't shown
abbrev pub why_no_child : World → Child → ℕ
why_no_child w child = option_map_or (why_not_shown w) child.value not_implemented

-- the children of a page that aren't shown
abbrev pub not_shown : World → Bool → List Child → List Child
not_shown w types children = filter (λ child. not (is_some (child_shown w types child))) children

-- The errors of a page. Its values are told at once, or none of them where one isn't there; then each that isn't shown
-- has its error.
abbrev pub page_errors : World → Bool → List Child → List ℕ
page_errors w types children =
    if list_all has_value children then map (why_no_child w) (not_shown w types children) else not_implemented ∷ []

abbrev pub errors_of : World → Bool → Thing → ℕ → ℕ → Option (List Child) → List ℕ
errors_of w types thing start count None = why_no_children w thing ∷ []
errors_of w types thing start count (Some children) = page_errors w types (page start count children)

-- those of a page of a container's children
abbrev pub children_errors : World → Bool → Thing → Filter → ℕ → ℕ → List ℕ
children_errors w types thing filter start count = errors_of w types thing start count (children_of w filter thing)

-- Expressions ---------------------------------------------------------------------------------------------------------

-- why the steps from a value on come to nothing that is shown: by the value at which they stop
abbrev pub why_behind : World → (Value → ℕ) → Value → Option Sought → ℕ
why_behind w on value None = why_not_shown w value
why_behind w on value (Some (Ok p)) = on p.value
why_behind w on value (Some (Err failure)) = none

abbrev pub why_no_steps : World → List Hop → Value → ℕ
why_no_steps w [] value = why_not_shown w value
why_no_steps w (hop ∷ others) value = why_behind w (why_no_steps w others) value (step_on w hop value)

-- why a name has no value: a variable has none in its slot, or its frame may not be looked at; a field's receiver isn't
-- told, or has no such field
abbrev pub why_no_name : World → FrameThing → Option Variable → ℕ
why_no_name w frame (Some v) = why_no_frames w frame.thread
why_no_name w frame None = option_map_or (why_not_shown w) (this_of w frame) (why_no_receiver w frame)

abbrev pub why_no_head : World → FrameThing → Head → ℕ
why_no_head w frame heads.This = why_no_receiver w frame
why_no_head w frame (heads.Name name) = why_no_name w frame (find (λ v. bytes_eq v.name name) (scope_of w frame))

abbrev pub why_from : World → FrameThing → Expr → Option Sought → ℕ
why_from w frame e None = why_no_head w frame e.head
why_from w frame e (Some (Ok p)) = why_no_steps w e.steps p.value
why_from w frame e (Some (Err failure)) = none

-- why the value of an expression isn't shown
abbrev pub why_no_value : World → FrameThing → Expr → ℕ
why_no_value w frame e = why_from w frame e (head_in w frame e.head)

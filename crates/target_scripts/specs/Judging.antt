-- Which rows may follow those before them: the first fault that a row has.
use Rattle.std.specs.Prelude.{ℕ, ◌^◌, nat_lt, nat_le, Bool, true, false, not, ◌==◌, ◌&&◌, ◌||◌, if◌then◌else◌, Option, Some, None}
use Rattle.std.specs.Prelude.{List, [], ◌∷◌}
use Rattle.jdwp_events.specs.declared.kind.Policy.{Policy}
use Rattle.jdwp_events.specs.declared.kind.Policy.TheVariants as policies
use Rattle.jdwp_values.specs.declared.id.ObjectId.{ObjectId}
use Rattle.script_rows.specs.declared.rows.Row.{Row}
use Rattle.script_rows.specs.declared.rows.Row.TheVariants as rows
use Rattle.script_rows.specs.declared.script.Script.{Script}
use Rattle.script_text.specs.declared.log.ScriptFault.{ScriptFault}
use Rattle.script_text.specs.declared.log.ScriptFault.TheVariants as faults
use Rattle.script_worlds.specs.Given.{is_class, is_method, is_field, is_object, is_frame, is_thread}
use Rattle.script_worlds.specs.Known.{array_is_known, put_is_known, frame_is_known, move_is_known, move_is_new}
use Rattle.script_worlds.specs.Shapes.{class_fits, method_fits, variable_fits, field_fits, object_fits, array_fits}
use Rattle.script_worlds.specs.Shapes.{has_elements, string_fits, field_value_fits, is_for_field, thread_fits}
use Rattle.script_worlds.specs.Shapes.{frame_fits, has_room, move_fits, move_is_of_kind}
use Rattle.world_model.specs.declared.moves.Move.{Move}
use Rattle.world_model.specs.declared.rows.Put.{Put}
use Rattle.world_model.specs.declared.rows.WorldArray.{WorldArray}
use Rattle.world_model.specs.declared.rows.WorldFrame.{WorldFrame}
use Rattle.world_model.specs.declared.world.World.{World}
use Rattle.target_scripts.specs.declared.building.Building.{Building}

-- Order --------------------------------------------------------------------------------------------------------------

-- the place of a row's kind among all kinds, in the order in which they stand
abbrev pub rank : Row → ℕ
rank (rows.Head told) = 0
rank (rows.Sizes sizes) = 0
rank (rows.Limits turns quiet waiting) = 1
rank (rows.Class row) = 2
rank (rows.Method row) = 3
rank (rows.Variable row) = 4
rank (rows.Field row) = 5
rank (rows.Object row) = 6
rank (rows.Array row) = 7
rank (rows.Text row) = 8
rank (rows.Put row) = 9
rank (rows.Thread row) = 10
rank (rows.Frame row) = 11
rank (rows.Begin begin) = 12
rank (rows.Move row) = 13
rank (rows.Turn turn) = 14
rank rows.End = 15

-- limits and a start stand once
abbrev pub is_twice : ℕ → ℕ → Bool
is_twice last next = (last == next) && ((next == 1) || (next == 12))

-- behind the sizes of ids stand the other kinds in their order
abbrev pub may_follow : ℕ → ℕ → Bool
may_follow last next = (nat_lt 0 next && nat_le last next) && not (is_twice last next)

-- Shape --------------------------------------------------------------------------------------------------------------

-- an array has values of its elements' kind
unfoldable pub array_stands : World → WorldArray → Bool
array_stands w row = array_fits w.sizes row && has_elements w row

-- a value is of its field's kind
unfoldable pub put_stands : World → Put → Bool
put_stands w row =
    field_value_fits w.sizes row.object row.field row.value && is_for_field w row.object row.field row.value

-- a thread has room for one more frame
unfoldable pub frame_stands : World → WorldFrame → Bool
frame_stands w row = frame_fits w.sizes row && has_room w row.thread

-- a start suspends all threads or none (JDWP, Event command set, Composite, VMStart)
abbrev pub may_begin : Policy → Bool
may_begin policies.NoThread = true
may_begin policies.EventThread = false
may_begin policies.All = true

-- a value that is stored is of its field's kind
unfoldable pub move_stands : World → Move → Bool
move_stands w row = move_fits w.sizes row && move_is_of_kind w row

-- limits are ones under which a session can be served
abbrev pub limits_fit : ℕ → ℕ → ℕ → Bool
limits_fit turns quiet waiting = (nat_lt 0 turns && nat_le turns (2 ^ 40)) && (nat_lt 0 quiet && nat_lt 0 waiting)

-- ids fit the sizes, values are of the kinds that were given, and a start has a policy that it may have
unfoldable pub row_fits : World → Row → Bool
row_fits w (rows.Head told) = true
row_fits w (rows.Sizes sizes) = true
row_fits w (rows.Limits turns quiet waiting) = limits_fit turns quiet waiting
row_fits w (rows.Class row) = class_fits w.sizes row
row_fits w (rows.Method row) = method_fits w.sizes row
row_fits w (rows.Variable row) = variable_fits w.sizes row
row_fits w (rows.Field row) = field_fits w.sizes row
row_fits w (rows.Object row) = object_fits w.sizes row
row_fits w (rows.Array row) = array_stands w row
row_fits w (rows.Text row) = string_fits w.sizes row
row_fits w (rows.Put row) = put_stands w row
row_fits w (rows.Thread row) = thread_fits w.sizes row.id
row_fits w (rows.Frame row) = frame_stands w row
row_fits w (rows.Begin begin) = thread_fits w.sizes begin.thread && may_begin begin.policy
row_fits w (rows.Move row) = move_stands w row
row_fits w (rows.Turn turn) = true
row_fits w rows.End = true

-- Ids ----------------------------------------------------------------------------------------------------------------

-- what a row gives was not given
unfoldable pub row_is_new : Script → Row → Bool
row_is_new s (rows.Head told) = true
row_is_new s (rows.Sizes sizes) = true
row_is_new s (rows.Limits turns quiet waiting) = true
row_is_new s (rows.Class row) = not (is_class s.world row.id)
row_is_new s (rows.Method row) = not (is_method s.world row.class row.method.id)
row_is_new s (rows.Variable row) = true
row_is_new s (rows.Field row) = not (is_field s.world row.class row.field.id)
row_is_new s (rows.Object row) = not (is_object s.world row.id)
row_is_new s (rows.Array row) = not (is_object s.world row.id)
row_is_new s (rows.Text row) = not (is_object s.world row.id)
row_is_new s (rows.Put row) = true
row_is_new s (rows.Thread row) = not (is_object s.world (record { 0 = row.id.0 }))
row_is_new s (rows.Frame row) = not (is_frame s.world row.id)
row_is_new s (rows.Begin begin) = true
row_is_new s (rows.Move row) = move_is_new s.world s.program row
row_is_new s (rows.Turn turn) = true
row_is_new s rows.End = true

-- what a row names was given; the class above another one may be given later
unfoldable pub row_is_known : Script → Row → Bool
row_is_known s (rows.Head told) = true
row_is_known s (rows.Sizes sizes) = true
row_is_known s (rows.Limits turns quiet waiting) = true
row_is_known s (rows.Class row) = true
row_is_known s (rows.Method row) = is_class s.world row.class
row_is_known s (rows.Variable row) = is_method s.world row.class row.method
row_is_known s (rows.Field row) = is_class s.world row.class
row_is_known s (rows.Object row) = is_class s.world row.class
row_is_known s (rows.Array row) = array_is_known s.world s.program row
row_is_known s (rows.Text row) = is_class s.world row.class
row_is_known s (rows.Put row) = put_is_known s.world s.program row
row_is_known s (rows.Thread row) = true
row_is_known s (rows.Frame row) = frame_is_known s.world s.program row
row_is_known s (rows.Begin begin) = is_thread s.world begin.thread
row_is_known s (rows.Move row) = move_is_known s.world s.program row
row_is_known s (rows.Turn turn) = true
row_is_known s rows.End = true

-- The first fault ----------------------------------------------------------------------------------------------------

-- this fault, where the condition doesn't hold; else the next
abbrev pub unless : Bool → ScriptFault → Option ScriptFault → Option ScriptFault
unless holds fault next = if holds then next else Some fault

-- a row that may stand here gives new ids, and names those that were given
abbrev pub id_fault : Script → Row → Option ScriptFault
id_fault s row = unless (row_is_new s row) faults.RepeatedId (unless (row_is_known s row) faults.UnknownId None)

-- the first fault of a row behind the sizes of ids, but that of a move that can't be made
unfoldable pub fault_of : Building → Row → Option ScriptFault
fault_of b row =
    unless (row_fits b.script.world row) faults.BadShape
    (unless (not (b.last == 15)) faults.AfterEnd
    (unless (may_follow b.last (rank row)) faults.BadOrder (id_fault b.script row)))

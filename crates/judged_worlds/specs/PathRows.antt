-- What the expressions of a breakpoint come to in a world, where a thread came to it: in the thread's innermost frame (DAP
-- specification, Types, SourceBreakpoint, condition and logMessage).
use Rattle.std.specs.Prelude.{ℕ, ◌++◌, if◌then◌else◌, false, List, [], ◌∷◌, codes, Option, Some, None, option_map}
use Rattle.std.specs.Prelude.{Result, Ok, Err}
use Rattle.dap_messages.specs.Failures.{message_of}
use Rattle.dap_messages.specs.Telling.{no_such_name, target_error, unknown_thread}
use Rattle.dap_messages.specs.declared.told.Failure.{Failure}
use Rattle.field_exprs.specs.declared.expr.Expr.{Expr}
use Rattle.jdwp_values.specs.declared.id.ThreadId.{ThreadId}
use Rattle.shown_worlds.specs.ExpressionRows.{Sought, named_in}
use Rattle.shown_worlds.specs.FrameRows.{frames_of, may_look, place_of}
use Rattle.shown_worlds.specs.ValueRows.{Placed, shown}
use Rattle.stop_refs.specs.declared.thing.FrameThing.{FrameThing}
use Rattle.world_model.specs.Threads.{is_alive}
use Rattle.world_model.specs.declared.rows.WorldFrame.{WorldFrame}
use Rattle.world_model.specs.declared.world.World.{World}

-- Frames --------------------------------------------------------------------------------------------------------------

-- why the frames of a thread can't be had: it runs, or it has ended
abbrev pub why_no_frames : World → ThreadId → Failure
why_no_frames w thread = if is_alive w thread then target_error 0 else unknown_thread

-- a frame of a thread, where it stands
abbrev pub frame_thing : World → ThreadId → WorldFrame → FrameThing
frame_thing w thread row = record { thread = thread; frame = row.id; at = place_of w row }

-- the innermost is the first; in a thread without frames nothing has a name
abbrev pub innermost_of : World → ThreadId → List WorldFrame → Result FrameThing Failure
innermost_of w thread [] = Err no_such_name
innermost_of w thread (row ∷ rows) = Ok (frame_thing w thread row)

-- the innermost frame of a thread, or why it can't be had (JDWP, ThreadReference command set, Frames)
abbrev pub innermost : World → ThreadId → Result FrameThing Failure
innermost w thread =
    if may_look w thread then innermost_of w thread (frames_of w thread) else Err (why_no_frames w thread)

-- Values --------------------------------------------------------------------------------------------------------------

-- what the world doesn't say can't be had
abbrev pub or_refused : Option Sought → Sought
or_refused None = Err (target_error 0)
or_refused (Some sought) = sought

abbrev pub sought_from : World → Expr → Result FrameThing Failure → Sought
sought_from w e (Err failure) = Err failure
sought_from w e (Ok frame) = or_refused (named_in w frame e)

-- the value that an expression has for a thread, or why it can't be had
abbrev pub path_in : World → ThreadId → Expr → Sought
path_in w thread e = sought_from w e (innermost w thread)

-- Texts ---------------------------------------------------------------------------------------------------------------

abbrev pub or_no_text : Option (List ℕ) → Result (List ℕ) Failure
or_no_text None = Err (target_error 0)
or_no_text (Some text) = Ok text

-- it is shown as children are
abbrev pub text_from : World → Sought → Result (List ℕ) Failure
text_from w (Err failure) = Err failure
text_from w (Ok p) = or_no_text (option_map (λ seen. seen.text) (shown w false p))

-- the text of that value, or why it can't be had
abbrev pub text_in : World → ThreadId → Expr → Result (List ℕ) Failure
text_in w thread e = text_from w (path_in w thread e)

-- in its place its failure is logged
abbrev pub said : Result (List ℕ) Failure → List ℕ
said (Ok text) = text
said (Err failure) = codes "<" ++ message_of failure.code ++ codes ">"

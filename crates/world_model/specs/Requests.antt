-- The event requests that a target installs, and their numbers (JDWP, EventRequest command set, Set).
use Rattle.std.specs.Prelude.{ℕ, ◌+◌, ℤ, pos, nat_lt, nat_le, Bool, true, false, ◌==◌, ◌&&◌, ◌||◌}
use Rattle.std.specs.Prelude.{if◌then◌else◌, nat_eq, List, [], ◌∷◌, length, count_by, find, codes, bytes_eq, Option}
use Rattle.std.specs.Prelude.{Some, None}
use Rattle.std.specs.Prelude.{option_map, option_and_then, option_to_list, Result, Ok, Err}
use Rattle.std.specs.List.{list_any, ends_with}
use Rattle.std.specs.Option.{option_map_or}
use Rattle.std.specs.Ordering.{int_eq}
use Rattle.jdwp_values.specs.declared.id.ClassId.{ClassId}
use Rattle.jdwp_values.specs.declared.id.MethodId.{MethodId}
use Rattle.jdwp_values.specs.declared.id.ThreadId.{ThreadId}
use Rattle.jdwp_values.specs.declared.class.Line.{Line}
use Rattle.jdwp_events.specs.declared.kind.EventKind.{EventKind}
use Rattle.jdwp_events.specs.declared.kind.EventKind.TheVariants as kinds
use Rattle.jdwp_events.specs.declared.kind.Policy.{Policy}
use Rattle.jdwp_events.specs.declared.modifier.Modifier.{Modifier}
use Rattle.jdwp_events.specs.declared.modifier.Modifier.TheVariants as modifiers
use Rattle.jdwp_events.specs.Kinds.{byte_of_policy}
use Rattle.class_tables.specs.Lines.{entry_at}
use Rattle.world_model.specs.declared.rows.Installed.{Installed}
use Rattle.world_model.specs.declared.rows.StepStart.{StepStart}
use Rattle.world_model.specs.declared.rows.WorldFrame.{WorldFrame}
use Rattle.world_model.specs.declared.rows.WorldMethod.{WorldMethod}
use Rattle.world_model.specs.declared.world.World.{World}
use Rattle.world_model.specs.Classes.{method_in, method_at, is_native}
use Rattle.world_model.specs.Codes.{invalid_thread, not_implemented}
use Rattle.world_model.specs.Threads.{is_alive}

-- allowed, or not
abbrev pub allowed_if : Bool → ℕ → Result (Unit {0}) ℕ
allowed_if true code = Ok tt
allowed_if false code = Err code

-- events of this policy suspend so much: 0 nothing, 2 all threads (JDWP, Constants, SuspendPolicy)
abbrev pub suspends : Policy → ℕ → Bool
suspends policy byte = byte_of_policy policy == byte

-- a request with one modifier
abbrev pub of_one : (Modifier → Result (Unit {0}) ℕ) → List Modifier → Result (Unit {0}) ℕ
of_one check [] = Err not_implemented
of_one check (modifier ∷ []) = check modifier
of_one check (modifier ∷ another ∷ more) = Err not_implemented

-- a request with none
abbrev pub of_none : List Modifier → Result (Unit {0}) ℕ
of_none [] = Ok tt
of_none (modifier ∷ more) = Err not_implemented

-- the pattern of a package's classes, or of all (JDWP, EventRequest command set, Set, ClassMatch)
abbrev pub is_package_pattern : List ℕ → Bool
is_package_pattern pattern =
    bytes_eq pattern (codes "*") || (nat_lt 2 (length pattern) && ends_with nat_eq pattern (codes ".*"))

-- the classes of a package as they are prepared
abbrev pub watch : Modifier → Result (Unit {0}) ℕ
watch (modifiers.ClassMatch pattern) = allowed_if (is_package_pattern pattern) not_implemented
watch (modifiers.Count n) = Err not_implemented
watch (modifiers.ThreadOnly thread) = Err not_implemented
watch (modifiers.ClassOnly class) = Err not_implemented
watch (modifiers.ClassExclude pattern) = Err not_implemented
watch (modifiers.LocationOnly at) = Err not_implemented
watch (modifiers.ExceptionOnly class caught uncaught) = Err not_implemented
watch (modifiers.Step thread size depth) = Err not_implemented

-- a method that is there
abbrev pub of_method : Result WorldMethod ℕ → Result (Unit {0}) ℕ
of_method (Ok method) = Ok tt
of_method (Err code) = Err code

-- a breakpoint at a location in a method that is there
abbrev pub breakpoint : World → Modifier → Result (Unit {0}) ℕ
breakpoint w (modifiers.LocationOnly at) = of_method (method_at w at.class at.method)
breakpoint w (modifiers.ClassMatch pattern) = Err not_implemented
breakpoint w (modifiers.Count n) = Err not_implemented
breakpoint w (modifiers.ThreadOnly thread) = Err not_implemented
breakpoint w (modifiers.ClassOnly class) = Err not_implemented
breakpoint w (modifiers.ClassExclude pattern) = Err not_implemented
breakpoint w (modifiers.ExceptionOnly class caught uncaught) = Err not_implemented
breakpoint w (modifiers.Step thread size depth) = Err not_implemented

-- flags of exceptions, of which one is set (JDWP, EventRequest command set, Set, ExceptionOnly)
abbrev pub are_flags : ℕ → ℕ → Bool
are_flags caught uncaught = nat_lt caught 2 && nat_lt uncaught 2 && nat_lt 0 (caught + uncaught)

-- exceptions of each class, those that are caught, those that are not, or both
abbrev pub thrown : Modifier → Result (Unit {0}) ℕ
thrown (modifiers.ExceptionOnly class caught uncaught) =
    allowed_if ((class.0 == 0) && are_flags caught uncaught) not_implemented
thrown (modifiers.LocationOnly at) = Err not_implemented
thrown (modifiers.ClassMatch pattern) = Err not_implemented
thrown (modifiers.Count n) = Err not_implemented
thrown (modifiers.ThreadOnly thread) = Err not_implemented
thrown (modifiers.ClassOnly class) = Err not_implemented
thrown (modifiers.ClassExclude pattern) = Err not_implemented
thrown (modifiers.Step thread size depth) = Err not_implemented

-- a step of a line's size, into, over or out (JDWP, Constants, StepSize and StepDepth)
abbrev pub is_line_step : ℤ → ℤ → Bool
is_line_step size depth =
    int_eq size (pos 1) && (int_eq depth (pos 0) || (int_eq depth (pos 1) || int_eq depth (pos 2)))

-- a step of a thread that is alive, if it is one of a line
abbrev pub line_step : World → ThreadId → Bool → Result (Unit {0}) ℕ
line_step w thread true = allowed_if (is_alive w thread) invalid_thread
line_step w thread false = Err not_implemented

-- a step of a thread, by its modifier
abbrev pub step : World → Modifier → Result (Unit {0}) ℕ
step w (modifiers.Step thread size depth) = line_step w thread (is_line_step size depth)
step w (modifiers.LocationOnly at) = Err not_implemented
step w (modifiers.ClassMatch pattern) = Err not_implemented
step w (modifiers.Count n) = Err not_implemented
step w (modifiers.ThreadOnly thread) = Err not_implemented
step w (modifiers.ClassOnly class) = Err not_implemented
step w (modifiers.ClassExclude pattern) = Err not_implemented
step w (modifiers.ExceptionOnly class caught uncaught) = Err not_implemented

-- the requests with one modifier, by the kind of their events
abbrev pub of_kind : World → EventKind → Modifier → Result (Unit {0}) ℕ
of_kind w kinds.ClassPrepare modifier = watch modifier
of_kind w kinds.Breakpoint modifier = breakpoint w modifier
of_kind w kinds.Exception modifier = thrown modifier
of_kind w kinds.SingleStep modifier = step w modifier
of_kind w kinds.ThreadStart modifier = Err not_implemented
of_kind w kinds.ThreadDeath modifier = Err not_implemented
of_kind w kinds.VMStart modifier = Err not_implemented
of_kind w kinds.VMDeath modifier = Err not_implemented

-- events of threads, which suspend nothing
abbrev pub is_of_threads : EventKind → Bool
is_of_threads kinds.ThreadStart = true
is_of_threads kinds.ThreadDeath = true
is_of_threads kinds.ClassPrepare = false
is_of_threads kinds.Breakpoint = false
is_of_threads kinds.Exception = false
is_of_threads kinds.SingleStep = false
is_of_threads kinds.VMStart = false
is_of_threads kinds.VMDeath = false

-- which requests are installed: those of a debugger's wishes alone, which suspend nothing as threads start and end, and
-- else all threads
abbrev pub allowed : World → EventKind → Policy → List Modifier → Result (Unit {0}) ℕ
allowed w kind policy list =
    if is_of_threads kind then if suspends policy 0 then of_none list else Err not_implemented
    else if suspends policy 2 then of_one (of_kind w kind) list else Err not_implemented

-- the number behind a request's: behind the last one it is 1 again
abbrev pub behind_id : ℕ → ℕ
behind_id id = if nat_le 2147483647 id then 1 else id + 1

-- whether a number is in use
abbrev pub is_in_use : List Installed → ℕ → Bool
is_in_use requests id = list_any (λ row. row.request == id) requests

-- the first number from one on that is not in use, with one attempt for each of these requests and one more
abbrev pub free_from : List Installed → List Installed → ℕ → Option ℕ
free_from [] requests id = if is_in_use requests id then None else Some id
free_from (attempt ∷ attempts) requests id =
    if is_in_use requests id then free_from attempts requests (behind_id id) else Some id

-- the number that the next request gets: of one more than are installed one is free, unless all are in use
abbrev pub free_id : World → Option ℕ
free_id w = free_from w.requests w.requests w.next_request

-- the entries of a method's line table: none where it is native or they are not known (JDWP, Method command set,
-- LineTable)
abbrev pub known_entries : WorldMethod → List Line
known_entries row = if is_native row then [] else option_map_or (λ lines. lines) row.lines []

-- the line of a place in a method's code, where the method has lines
abbrev pub line_at : World → ClassId → MethodId → ℕ → Option ℤ
line_at w class method index =
    option_and_then (λ row. option_map (λ entry. entry.line) (entry_at index (known_entries row)))
    (method_in w class method)

-- the line at which a frame stands
abbrev pub line_of_frame : World → WorldFrame → Option ℤ
line_of_frame w row = line_at w row.class row.method row.index

-- the innermost frame of a thread
abbrev pub innermost : World → ThreadId → Option WorldFrame
innermost w thread = find (λ row. row.thread.0 == thread.0) w.frames

-- the line at which it stands
abbrev pub line_of_thread : World → ThreadId → Option ℤ
line_of_thread w thread = option_and_then (line_of_frame w) (innermost w thread)

-- how many frames a thread has
abbrev pub frames_under : List WorldFrame → ThreadId → ℕ
frames_under frames thread = count_by (λ row. row.thread.0 == thread.0) frames

-- where the thread of a step stands as its request is set
abbrev pub step_start : World → ℕ → ThreadId → StepStart
step_start w id thread = record {
  request = id;
  frames = frames_under w.frames thread;
  line = line_of_thread w thread;
}

-- the thread that steps, where the only modifier is a step's
abbrev pub thread_of_step : Modifier → Option ThreadId
thread_of_step (modifiers.Step thread size depth) = Some thread
thread_of_step (modifiers.LocationOnly at) = None
thread_of_step (modifiers.ClassMatch pattern) = None
thread_of_step (modifiers.Count n) = None
thread_of_step (modifiers.ThreadOnly thread) = None
thread_of_step (modifiers.ClassOnly class) = None
thread_of_step (modifiers.ClassExclude pattern) = None
thread_of_step (modifiers.ExceptionOnly class caught uncaught) = None

-- the thread that a request steps
abbrev pub stepping : List Modifier → Option ThreadId
stepping [] = None
stepping (modifier ∷ more) = thread_of_step modifier

-- where it stands, if the request is for a step
abbrev pub step_starts : World → List Modifier → ℕ → List StepStart
step_starts w list id = option_to_list (option_map (step_start w id) (stepping list))

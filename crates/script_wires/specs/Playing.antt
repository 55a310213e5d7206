-- Where a scripted session stands.
use Rattle.std.specs.Prelude.{ℕ, ◌+◌, min, Bool, true, false, if◌then◌else◌, List, [], ◌∷◌, ◌++◌, take, drop}
use Rattle.std.specs.Prelude.{Option, option_map}
use Rattle.wire_core.specs.declared.outside.Side.{Side}
use Rattle.wire_core.specs.declared.outside.Side.TheVariants.{Client, Target}
use Rattle.wire_core.specs.declared.outside.Entry.{Entry}
use Rattle.wire_core.specs.declared.outside.Entry.TheVariants.{In, Out, Shut, Failed, Quiet}
use Rattle.jdwp_values.specs.declared.id.ThreadId.{ThreadId}
use Rattle.jdwp_events.specs.declared.kind.Policy.{Policy}
use Rattle.target_server.specs.Courses.{fresh}
use Rattle.target_server.specs.Hearing.{TargetState}
use Rattle.target_server.specs.Joints.{Joint, left}
use Rattle.line_elements.specs.declared.arguments.Arguments.{Arguments}
use Rattle.script_rows.specs.declared.script.Begin.{Begin}
use Rattle.script_rows.specs.declared.script.Script.{Script}
use Rattle.script_rows.specs.declared.script.Turn.{Turn}
use Rattle.script_wires.specs.Requests.{request_frame}

-- The lines of the schedule that are left; the sequence number of the client's next request; the bytes that are on their
-- way from the client; the target, with the bytes that are on their way from it; and which sides are open.
pub record Playing : Type 0 where
  pub schedule : List Turn
  pub next_seq : ℕ
  pub client : List ℕ
  pub target : TargetState
  pub client_open : Bool
  pub target_open : Bool

-- the thread and the policy of a target's start
abbrev pub start_of : Option Begin → Option (ThreadId × Policy)
start_of begin = option_map (λ b. (b.thread, b.policy)) begin

-- a script at its beginning
abbrev pub beginning : Script → Playing
beginning script = record {
  schedule = script.schedule;
  next_seq = 1;
  client = [];
  target = fresh script.world script.program (start_of script.begin);
  client_open = true;
  target_open = true;
}

-- What is on its way ---------------------------------------------------------------------------------------------------

abbrev pub is_open : Side → Playing → Bool
is_open Client p = p.client_open
is_open Target p = p.target_open

-- the side whose end comes behind the schedule: the client's, or the target's where that has ended
abbrev pub last_side : Playing → Side
last_side p = if p.client_open then Client else Target

-- the bytes on their way from a side; those of a side that has ended are dropped
abbrev pub coming : Side → Playing → List ℕ
coming Client p = if p.client_open then p.client else []
coming Target p = if p.target_open then p.target.joint.flight.bytes else []

-- the first of them, at most so many, and at most 65,536
abbrev pub piece : ℕ → Side → Playing → List ℕ
piece most side p = take (min most 65536) (coming side p)

abbrev pub with_joint : Joint → Playing → Playing
with_joint joint p = record p { target = record p.target { joint = joint } }

-- so many bytes of a side have come
abbrev pub come : Side → ℕ → Playing → Playing
come Client n p = record p { client = drop n p.client }
come Target n p = with_joint (left n p.target.joint) p

-- what is heard where these bytes of a side come: a wait in vain where there are none
abbrev pub heard : Side → List ℕ → Entry
heard side [] = Quiet
heard side (b ∷ bytes) = In side (b ∷ bytes)

-- What changes ---------------------------------------------------------------------------------------------------------

-- these lines of the schedule are left
abbrev pub with_lines : List Turn → Playing → Playing
with_lines lines p = record p { schedule = lines }

-- the client's next request goes on its way
abbrev pub asked : List ℕ → Arguments → Playing → Playing
asked command arguments p = record p {
  next_seq = p.next_seq + 1;
  client = p.client ++ request_frame p.next_seq command arguments;
}

-- a side has ended
abbrev pub closed : Side → Playing → Playing
closed Client p = record p { client_open = false }
closed Target p = record p { target_open = false }

-- what is heard may be the end of a side
abbrev pub closed_by : Entry → Playing → Playing
closed_by (In side bytes) p = p
closed_by (Out side bytes) p = p
closed_by (Shut side) p = closed side p
closed_by (Failed side) p = closed side p
closed_by Quiet p = p

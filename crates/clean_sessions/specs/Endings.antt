-- What each ending says of its session.
use Rattle.std.specs.Prelude.{List}
use Rattle.clean_sessions.specs.Premises.{ClientSpeaks, ClientStays, FewWait, HasTurnsLeft, IsPatient, KeptRead}
use Rattle.clean_sessions.specs.Premises.{LinkHolds, NoneSuspendsOne, RefusesLittle, TargetSpeaks}
use Rattle.machine_model.specs.Runs.{Message}
use Rattle.session_laws.specs.Endings.{IsDone}
use Rattle.session_model.specs.Names.{BadClient, BadTarget, Client, ClientLink, Done, Ending, Entry, Flood, Idle, Left}
use Rattle.session_model.specs.Names.{Limits, NoMemory, Spent, Target, TargetLink, TargetRefused}

-- A session that is done has answered all requests, its last with a success. One that ended otherwise broke what is
-- asked of the side, the link or the limit that its ending names. Want of memory says nothing.
abbrev pub IsWhy : Limits → List Entry → List Message → Ending → Type 0
IsWhy limits log messages Done = IsDone messages
IsWhy limits log messages Left = ¬ ClientStays log
IsWhy limits log messages (BadClient fault at) = ¬ ClientSpeaks log
IsWhy limits log messages (BadTarget fault at id) =
    ¬ (TargetSpeaks log messages × KeptRead messages × NoneSuspendsOne messages)
IsWhy limits log messages ClientLink = ¬ LinkHolds Client log
IsWhy limits log messages TargetLink = ¬ LinkHolds Target log
IsWhy limits log messages (TargetRefused set command code) = ¬ RefusesLittle log messages
IsWhy limits log messages Idle = ¬ IsPatient limits log
IsWhy limits log messages Spent = ¬ HasTurnsLeft limits log
IsWhy limits log messages Flood = ¬ FewWait limits messages
IsWhy limits log messages NoMemory = Unit {0}

-- A session that ended well is done, and all its requests are answered, its last with a success; or memory ran out.
pub data EndsWell (messages : List Message) : Ending → Type 0 where
  done : IsDone messages → EndsWell messages Done
  no_memory : EndsWell messages NoMemory

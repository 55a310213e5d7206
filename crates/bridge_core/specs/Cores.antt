-- A core as contracts see it, and where a session of it stands.
use Rattle.std.specs.Prelude.{ℕ, ◌≡◌, ◌≤◌, Bool, false, List, length, Option, None}
use Rattle.jdwp_packets.specs.Receiving.{Received}
use Rattle.machine_model.specs.Due.{can_read}
use Rattle.machine_model.specs.Runs.{Message, Run}
use Rattle.machine_model.specs.State.{Machine, fresh}
use Rattle.pending_table.specs.Windows.{Window}
use Rattle.pending_table.specs.Windows.{fresh as unsent}
use Rattle.bridge_core.specs.Aligning.{Aligned}
use Rattle.session_model.specs.LastWords.{LastWord}
use Rattle.session_model.specs.States.{SessionState, StreamState}
use Rattle.wire_core.specs.Streams.{Uncut}

-- What a core is seen as: the machine; how many messages the client was told; the commands without a reply, with their
-- ids; how many items may wait; and which last words are left, once any was asked for.
pub record CoreState : Type 0 where
  pub machine : Machine
  pub told : ℕ
  pub commands : Window
  pub limit : ℕ
  pub words : Option (List LastWord)

-- a core that has heard and told nothing
abbrev pub fresh_core : ℕ → CoreState
fresh_core limit = record { machine = fresh; told = 0; commands = unsent; limit = limit; words = None }

-- a core whose machine is this one
abbrev pub with_machine : CoreState → Machine → CoreState
with_machine core machine = record core { machine = machine }

-- What a core doesn't hold of a session: the bytes that aren't cut yet, whether the end of the target's stream is still
-- to be taken up, and how many waits in a row were in vain.
pub record Unheard : Type 0 where
  pub client : Uncut
  pub target : Received
  pub ended : Bool
  pub quiets : ℕ

-- where the session of a core stands in the bytes of its two sides
abbrev pub streams_in : CoreState → Unheard → StreamState
streams_in core unheard = record {
  told = core.told;
  client = unheard.client;
  target = unheard.target;
  ended = unheard.ended;
  commands = core.commands;
}

-- where the session of a core stands
abbrev pub session_in : CoreState → Unheard → SessionState
session_in core unheard =
    record { machine = core.machine; streams = streams_in core unheard; quiets = unheard.quiets }

-- A core that is sound: there are messages of which its machine is a run; the commands under ids are those that it has
-- pending; and no composite is left that could be read.
pub record IsSound (core : CoreState) : Type 0 where
  pub messages : List Message
  pub run : Run messages core.machine
  pub aligned : Aligned core.commands.sent core.machine
  pub none_to_read : can_read core.machine ≡ false

-- A core that goes on: it is sound, and no more items wait than may.
pub record IsReady (core : CoreState) : Type 0 where
  pub sound : IsSound core
  pub room : length core.machine.waiting ≤ core.limit

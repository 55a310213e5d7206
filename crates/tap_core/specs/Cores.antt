-- What a tap holds of where it stands; and where it stands, with what it doesn't hold.
use Rattle.std.specs.Prelude.{ℕ, ◌+◌, ◌&&◌, Bool, false, true, List, [], drop, length, None, count_by, map}
use Rattle.std.specs.Prelude.{nat_lt}
use Rattle.jdwp_packets.specs.Receiving.{Received, nothing_received}
use Rattle.tap_core.specs.Names.{Ask, Client, Debugger, DebuggerCommand, Never, of_question, Owner, Sizes, Target}
use Rattle.tap_model.specs.States.{Asking, Greeted, Said, SentCommands, TapState, greets, hands, is_debuggers, sends}
use Rattle.tap_model.specs.States.{with_sent}
use Rattle.tap_model.specs.Steps.{most_waiting}

-- What a core holds of a tap: which sides were greeted; which commands have no reply; the commands, and the packets for
-- the debugger, as bytes, that wait; its questions; and whether the target was let go.
pub record CoreState : Type 0 where
  pub greeted : Greeted
  pub sent : SentCommands
  pub commands : List DebuggerCommand
  pub packets : List (List ℕ)
  pub asking : Asking
  pub left_by : Bool

-- What it doesn't hold: the bytes of the two sides, and how many waits in a row were in vain.
pub record Unheard : Type 0 where
  pub debugger : Received
  pub target : Received
  pub quiets : ℕ

-- where a tap stands
abbrev pub state_in : CoreState → Unheard → TapState
state_in core unheard = record {
  debugger = unheard.debugger;
  target = unheard.target;
  greeted = core.greeted;
  sent = core.sent;
  commands = core.commands;
  packets = core.packets;
  asking = core.asking;
  left_by = core.left_by;
  quiets = unheard.quiets;
}

-- nothing came yet
abbrev pub nothing_heard : Unheard
nothing_heard = record { debugger = nothing_received; target = nothing_received; quiets = 0 }

-- no question was asked
abbrev pub unasked : List Ask → Asking
unasked asks =
    record { asked_sizes = false; sizes = None; left = []; answers = map (λ (ask : Ask). Never) asks }

-- a core that has heard and said nothing
abbrev pub fresh_core : List Ask → CoreState
fresh_core asks = record {
  greeted = record { target = false; debugger = false };
  sent = record { pending = []; next = 0 };
  commands = [];
  packets = [];
  asking = unasked asks;
  left_by = false;
}

-- there is room for one more message
abbrev pub has_room_in : CoreState → Bool
has_room_in core = nat_lt (length core.commands + length core.packets) most_waiting

-- and for one more command of the debugger's
abbrev pub can_keep_in : CoreState → Bool
can_keep_in core = has_room_in core && nat_lt (count_by is_debuggers core.sent.pending) most_waiting

-- a core once something was said
abbrev pub core_taken_up : Owner → CoreState → CoreState
core_taken_up (Debugger id leaves) core = record core { commands = drop 1 core.commands }
core_taken_up Sizes core = record core { asking = record core.asking { asked_sizes = true } }
core_taken_up (of_question n) core =
    record core { asking = record core.asking { left = drop 1 core.asking.left } }

abbrev pub core_after : Said → CoreState → CoreState
core_after (greets Client) core = record core { greeted = record core.greeted { debugger = true } }
core_after (greets Target) core = record core { greeted = record core.greeted { target = true } }
core_after (sends c) core = core_taken_up c.owner (record core { sent = with_sent c.owner core.sent })
core_after (hands bytes) core = record core { packets = drop 1 core.packets }

-- How the debugger's stream is cut into commands.
use Rattle.std.proofs.Common.{◌≡◌, ℕ, ◌+◌, ◌<◌, ◌≤◌, Bool, true, false, List, length, refl, sym, ap, arith}
use Rattle.std.proofs.Common.{Option, None, Some}
use Rattle.std.specs.Prelude.{Result, Ok, Err}
use Rattle.std.proofs.lemmas.List.{length-drop}
use Rattle.wire_core.specs.Streams.{Front, waits, whole, faulty, left}
use Rattle.jdwp_values.specs.declared.sizes.IdSizes.{IdSizes}
use Rattle.jdwp_packets.proofs.PacketLaws.{packet-steady}
use Rattle.jdwp_packets.specs.declared.cutter.Packet.{Packet as OnePacket}
use Rattle.jdwp_packets.specs.declared.fault.PacketFault.{PacketFault}
use Rattle.jdwp_packets.specs.declared.fault.PacketTrouble.{PacketTrouble}
use Rattle.jdwp_packets.specs.Packets.{Packet, greeting_front}
use Rattle.jdwp_packets.specs.Receiving.{Received, received_front, before_greeting, left_behind}
use Rattle.jdwp_packets.specs.Taking.{IsAnswer, IsTaken, Shows}
use Rattle.target_server.specs.declared.commands.Command.{Command}
use Rattle.target_server.specs.declared.trouble.TargetTrouble.{TargetTrouble}
use Rattle.target_server.specs.declared.trouble.TargetTrouble.TheVariants.{NoMemory, Packet as BadPacket, NotACommand}
use Rattle.target_server.specs.declared.trouble.TargetTrouble.TheVariants.{Body as BadBody}
use Rattle.target_server.specs.Hearing.{next_by, next_in, command_of, if_read, IsThis, heard_end}

-- what stands at the front is refused
refused_by : (sizes : IdSizes) (at : ℕ) (front : Front Packet PacketFault) (trouble : PacketTrouble)
    → IsAnswer front at (Err trouble) → next_by sizes at front ≡ Err (BadPacket trouble)
refused_by sizes at waits trouble answer = cc
refused_by sizes at (whole packet n) trouble answer = absurd answer
refused_by sizes at (faulty fault behind) trouble answer =
    let e : trouble ≡ record { fault = fault; at = at + behind } = cc answer in
    ap (λ (t : PacketTrouble). Err (BadPacket t)) (sym e)

pub refused_in : (sizes : IdSizes) (heard : Received) (trouble : PacketTrouble) → IsTaken heard (Err trouble)
    → next_in sizes heard ≡ Err (BadPacket trouble)
refused_in sizes heard trouble taken =
    refused_by sizes heard.stream.at (received_front heard.greeted heard.stream.pending) trouble taken

-- nothing whole stands there
none_by : (sizes : IdSizes) (at : ℕ) (front : Front Packet PacketFault) → IsAnswer front at (Ok None)
    → next_by sizes at front ≡ Ok None
none_by sizes at waits answer = refl
none_by sizes at (whole packet n) answer = absurd answer
none_by sizes at (faulty fault behind) answer = cc

pub none_in : (sizes : IdSizes) (heard : Received) → IsTaken heard (Ok None) → next_in sizes heard ≡ Ok None
none_in sizes heard taken =
    none_by sizes heard.stream.at (received_front heard.greeted heard.stream.pending) taken

-- a packet stands there, and its command is this one
this_read : (this : Result Command TargetTrouble) (result : Result Command TargetTrouble) → IsThis this result
    → IsThis (if_read this) (if_read result)
this_read this (Ok command) is = ap if_read is
this_read this (Err NoMemory) is = tt
this_read this (Err (BadPacket trouble)) is = ap if_read is
this_read this (Err (NotACommand at)) is = ap if_read is
this_read this (Err (BadBody at fault)) is = ap if_read is

some_by : (sizes : IdSizes) (at : ℕ) (front : Front Packet PacketFault) (shown : OnePacket)
    (result : Result Command TargetTrouble) → IsAnswer front at (Ok (Some shown))
    → ((offset : ℕ) (packet : Packet) → Shows shown offset packet → IsThis (command_of sizes offset packet) result)
    → IsThis (next_by sizes at front) (if_read result)
some_by sizes at waits shown result answer says = cc
some_by sizes at (whole packet n) shown result answer says =
    this_read (command_of sizes at packet) result (says at packet answer)
some_by sizes at (faulty fault behind) shown result answer says = cc

pub some_in : (sizes : IdSizes) (heard : Received) (shown : OnePacket) (result : Result Command TargetTrouble)
    → IsTaken heard (Ok (Some shown))
    → ((offset : ℕ) (packet : Packet) → Shows shown offset packet → IsThis (command_of sizes offset packet) result)
    → IsThis (next_in sizes heard) (if_read result)
some_in sizes heard shown result taken says =
    some_by sizes heard.stream.at (received_front heard.greeted heard.stream.pending) shown result taken says

-- What is left -------------------------------------------------------------------------------------------------------

abbrev left_with : Received → Front Packet PacketFault → Received
left_with heard front = record { greeted = heard.greeted; stream = left front heard.stream }

-- no packet stands there before the handshake
front_ungreeted : (front : Front (Unit {0}) PacketFault) (packet : Packet) (n : ℕ)
    → before_greeting front ≡ whole packet n → ⊥
front_ungreeted waits packet n h = cc
front_ungreeted (whole greeting m) packet n h = cc
front_ungreeted (faulty fault behind) packet n h = cc

front_takes : (greeted : Bool) (bytes : List ℕ) (packet : Packet) (n : ℕ) → received_front greeted bytes ≡ whole packet n
    → (0 < n) × (n ≤ length bytes)
front_takes true bytes packet n h = packet-steady.takes bytes packet n h
front_takes false bytes packet n h = absurd (front_ungreeted (greeting_front bytes) packet n h)

-- the end of a stream stays where some of it is taken
end_by : (heard : Received) (front : Front Packet PacketFault)
    → received_front heard.greeted heard.stream.pending ≡ front → heard_end (left_with heard front) ≤ heard_end heard
end_by heard waits is = omega arith
end_by heard (whole packet n) is =
    let taken = front_takes heard.greeted heard.stream.pending packet n is in
    let most = taken.1 in
    let cut = length-drop n heard.stream.pending in
    omega (arith, most, cut)
end_by heard (faulty fault behind) is = omega arith

pub end_stays : (heard : Received) → heard_end (left_behind heard) ≤ heard_end heard
end_stays heard = end_by heard (received_front heard.greeted heard.stream.pending) refl

fewer_by : (heard : Received) (front : Front Packet PacketFault) (shown : OnePacket)
    → received_front heard.greeted heard.stream.pending ≡ front → IsAnswer front heard.stream.at (Ok (Some shown))
    → length (left_with heard front).stream.pending < length heard.stream.pending
fewer_by heard waits shown is answer = cc
fewer_by heard (whole packet n) shown is answer =
    let taken = front_takes heard.greeted heard.stream.pending packet n is in
    let some = taken.0 in
    let most = taken.1 in
    let cut = length-drop n heard.stream.pending in
    omega (arith, some, most, cut)
fewer_by heard (faulty fault behind) shown is answer = cc

pub fewer_left : (heard : Received) (shown : OnePacket) → IsTaken heard (Ok (Some shown))
    → length (left_behind heard).stream.pending < length heard.stream.pending
fewer_left heard shown taken =
    fewer_by heard (received_front heard.greeted heard.stream.pending) shown refl taken

-- where no command comes next, nothing is taken
waits_by : (sizes : IdSizes) (at : ℕ) (front : Front Packet PacketFault) → next_by sizes at front ≡ Ok None
    → front ≡ waits
waits_by sizes at waits next = refl
waits_by sizes at (whole packet n) next = absurd (clash (command_of sizes at packet) next)
  where
    clash : (read : Result Command TargetTrouble) → if_read read ≡ Ok None → ⊥
    clash (Ok command) h = cc
    clash (Err trouble) h = cc
waits_by sizes at (faulty fault behind) next = cc

pub none_left : (sizes : IdSizes) (heard : Received) → next_in sizes heard ≡ Ok None → left_behind heard ≡ heard
none_left sizes heard next =
    ap (left_with heard)
    (waits_by sizes heard.stream.at (received_front heard.greeted heard.stream.pending) next)

pub fewer_taken : (heard : Received) (next : Option OnePacket) (shown : OnePacket) → IsTaken heard (Ok next)
    → next ≡ Some shown → length (left_behind heard).stream.pending < length heard.stream.pending
fewer_taken heard next shown taken some = fewer_left heard shown (rw some at taken)

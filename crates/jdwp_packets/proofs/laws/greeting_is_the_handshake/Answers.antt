use Rattle.jdwp_packets.proofs.Greetings.{handshake-whole, handshake-waits, handshake-refused}
use Rattle.jdwp_packets.proofs.laws.greeting_is_the_handshake.Goals as goal

pub returns : goal.returns
returns c = record { greeted = handshake-whole; waits = handshake-waits; refused = handshake-refused }

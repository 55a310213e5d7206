use Rattle.jdwp_packets.proofs.PacketLaws.{packet-is, packet-found}
use Rattle.jdwp_packets.proofs.laws.found_is_a_packet.Goals as goal

pub returns : goal.returns
returns c = record { found = packet-is; only = packet-found }

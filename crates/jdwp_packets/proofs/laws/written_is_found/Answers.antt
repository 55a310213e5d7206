use Rattle.jdwp_packets.proofs.PacketLaws.{packet-again}
use Rattle.jdwp_packets.proofs.laws.written_is_found.Goals as goal

pub returns : goal.returns
returns c = packet-again

use Rattle.jdwp_packets.proofs.PacketLaws.{short-is, long-is, flags-are, fault-place, packet-steady}
use Rattle.jdwp_packets.proofs.laws.faults_stand_at_the_packet.Goals as goal

pub returns : goal.returns
returns c =
    record {
      short = short-is;
      long = long-is;
      flags = flags-are;
      place = fault-place;
      stays =
          packet-steady.stays_faulty;
    }

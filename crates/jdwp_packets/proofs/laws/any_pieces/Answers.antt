use Rattle.std.proofs.Common.{refl}
use Rattle.wire_core.proofs.StreamLaws.{Cuts-one}
use Rattle.jdwp_packets.specs.Packets.{packet_front}
use Rattle.jdwp_packets.proofs.ReceivedLaws.{received-kept, taken-kept}
use Rattle.jdwp_packets.proofs.laws.any_pieces.Goals as goal

pub returns : goal.returns
returns c = record {
  begins = (refl, refl);
  feeds = λ bytes piece packets old handed. received-kept bytes packets old.greeted old.stream piece handed;
  takes = λ bytes packets old handed. taken-kept bytes packets old.greeted old.stream handed;
  only = λ stream packets others rest other_rest a b. Cuts-one packet_front stream packets rest others other_rest a b;
}

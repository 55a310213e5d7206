pub mod Fronts
pub mod Greetings
pub mod PacketLaws
pub mod ReceivedLaws

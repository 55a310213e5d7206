pub mod Requests
pub mod Clients
pub mod Lines
pub mod Playing
pub mod Schedules
pub mod Plays
pub mod Played
pub mod ScriptWires

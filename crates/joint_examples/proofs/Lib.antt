pub mod Choosing
pub mod SoundWorlds

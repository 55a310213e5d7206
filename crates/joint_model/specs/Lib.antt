pub mod Joints
pub mod Laws
pub mod Names
pub mod Obeying

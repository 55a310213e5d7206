pub mod Reading
pub mod Frames
pub mod Faults
pub mod Taking

pub mod Lines
pub mod FileRuns

pub mod DiskFiles
pub mod StdOutput
pub mod Streams
pub mod Tally

pub mod EndLaws
pub mod DumpLaws

pub mod RunLaws
pub mod PutLaws
mod Examples

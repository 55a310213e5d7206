pub mod Listed
pub mod Regions
pub mod Items
pub mod Table
pub mod Kinds
pub mod Bodies
pub mod Commands
pub mod Answers

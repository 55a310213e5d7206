pub mod Tables
pub mod Facts
pub mod Signatures
pub mod Lines
pub mod ByIndex
pub mod Lookups
pub mod Views
pub mod Histories

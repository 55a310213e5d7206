pub mod NewsLaws

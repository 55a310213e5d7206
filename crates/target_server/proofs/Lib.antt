pub mod Cutting
pub mod Feeding
pub mod Advancing
pub mod JointLaws
pub mod CourseLaws

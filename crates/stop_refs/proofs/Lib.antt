pub mod StartLaws
pub mod PlaceLaws
pub mod SessionLaws
pub mod ReferenceLaws

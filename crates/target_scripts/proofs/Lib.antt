pub mod SoundLaws
pub mod ShapeLaws

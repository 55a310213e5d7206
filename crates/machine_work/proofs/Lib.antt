pub mod FrameLaws
pub mod LineLaws
pub mod OwnMoves
pub mod WorkLaws

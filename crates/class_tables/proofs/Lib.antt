pub mod TableLaws
pub mod PackageLaws
pub mod ViewLaws
pub mod HistoryLaws
pub mod LineLaws
pub mod ByIndexLaws
pub mod SignatureLaws
pub mod LocationLaws

pub mod ChainLaws
pub mod FieldLaws
pub mod NeedLaws
pub mod ObjectLaws
pub mod PageLaws
pub mod WriteLaws

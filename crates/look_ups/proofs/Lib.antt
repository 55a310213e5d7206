pub mod AskedLemmas
pub mod ChildLaws
pub mod EachLaws
pub mod MetLaws
pub mod NeedLaws
pub mod SlotLaws

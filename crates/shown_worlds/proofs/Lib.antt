pub mod PlanLemmas
pub mod RowLemmas
pub mod FactLaws
pub mod ThreadLaws
pub mod FrameLaws
pub mod ValueLaws
pub mod LocalLaws
pub mod ChainLaws
pub mod ChildLaws
pub mod FieldLaws
pub mod ElementLaws
pub mod ChildrenLaws
pub mod SearchLaws
pub mod ExpressionLaws
pub mod WriteLaws
pub mod FailureLaws
pub mod PlanErrors
pub mod ValueErrors
pub mod ChildErrors
pub mod ExpressionErrors
pub mod WriteErrors
pub mod ErrorLaws
mod ShownExample
mod JavaExample

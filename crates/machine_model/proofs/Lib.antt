mod CaughtExamples
mod Examples
mod FrameExamples
mod JudgingExamples
mod QueueExamples
mod RuleExamples
mod StepExamples
mod StopExamples
pub mod AskedLaws
pub mod Bools
pub mod BreakpointExamples
pub mod CaughtLaws
pub mod DueWants
pub mod IdRows
pub mod JudgingLaws
pub mod KeyLaws
pub mod PlanIds
pub mod ValueExamples
pub mod VariableExamples
pub mod WriteIds

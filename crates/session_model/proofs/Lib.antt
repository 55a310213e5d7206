pub mod EndedRules
mod Examples
mod FaultExamples

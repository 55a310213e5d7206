pub mod FactLaws
mod FactsExample
pub mod HoldLaws
pub mod JointFacts
pub mod PolicyLaws
pub mod SaidFacts
pub mod SeenLaws
pub mod TableFacts
pub mod WorldFacts

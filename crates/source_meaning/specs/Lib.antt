pub mod Program
pub mod SourceStep
pub mod SourceLaws
pub mod RuleProgram
pub mod RuleText
pub mod RuleFront
pub mod Closed

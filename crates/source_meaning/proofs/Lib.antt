pub mod Examples
pub mod RuleLayout
pub mod RuleFronts
pub mod RuleReading

pub mod FactRules
pub mod Env
pub mod Rises
pub mod PredicateRises
pub mod Shape
pub mod ArgumentFacts
pub mod Prepared

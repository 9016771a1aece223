pub mod NamedVariables
pub mod Refusals

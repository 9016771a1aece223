pub mod TermVariables
pub mod RiseLemmas

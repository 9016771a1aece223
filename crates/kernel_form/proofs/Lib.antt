pub mod Below
pub mod TermParts

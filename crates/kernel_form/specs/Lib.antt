pub mod Numbering
pub mod Own

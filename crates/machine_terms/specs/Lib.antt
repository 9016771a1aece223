pub mod Answers
pub mod Arithmetic
pub mod Kinds

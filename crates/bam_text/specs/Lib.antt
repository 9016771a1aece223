pub mod Words
pub mod Operands
pub mod LineText
pub mod CodeText
pub mod TextLeft

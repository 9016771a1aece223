pub mod Grammar
pub mod Operands

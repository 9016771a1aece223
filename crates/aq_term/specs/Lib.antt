pub mod ArgsFall
pub mod Atoms
pub mod Builtins
pub mod FixedNames
pub mod OperatorRows
pub mod PlainOf
pub mod Reserved
pub mod Rule

pub mod Areas
pub mod Front
pub mod Held
pub mod Stands
pub mod Derefs

pub mod Accepts
pub mod Handed

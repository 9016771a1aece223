pub mod FactTypes
pub mod Places
pub mod Steps

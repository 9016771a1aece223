pub mod Arguments
pub mod Places
pub mod Puts

pub mod Loaded
pub mod QueryText
pub mod Rise

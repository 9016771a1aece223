pub mod Keys
pub mod Distinct
pub mod Entries
pub mod Selection
pub mod Plans

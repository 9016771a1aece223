pub mod Outlines
pub mod Coalesced

pub mod Bytes
pub mod BodyReads
pub mod ClauseReads
pub mod TextReads

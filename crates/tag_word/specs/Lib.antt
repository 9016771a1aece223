pub mod Tag
pub mod Tagged
pub mod WordBits

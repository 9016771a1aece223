pub mod Got
pub mod Repeats

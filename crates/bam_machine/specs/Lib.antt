pub mod Running
pub mod Stands
pub mod Outcome
pub mod Runs
pub mod ToEnd
pub mod Advance
pub mod Balls
pub mod Holes

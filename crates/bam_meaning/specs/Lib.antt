pub mod Instruction
pub mod Frame
pub mod Choice
pub mod State
pub mod Step
pub mod Limited
pub mod Linked
pub mod Finished

pub mod Machine
pub mod Event
pub mod Written

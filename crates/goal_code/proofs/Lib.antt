pub mod Due
pub mod MoreSteps
pub mod OutPassed
pub mod SingleGroups
pub mod DetPlans

pub mod Signatures
pub mod OnePlan
pub mod SameSteps
pub mod FewerSteps
pub mod Finished
pub mod Procedures

pub mod Examples
pub mod LimitedLaws
pub mod FinishedLaws

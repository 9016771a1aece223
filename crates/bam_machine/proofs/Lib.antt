pub mod Instructions
pub mod OtherLemmas
pub mod StepLemmas
pub mod TriedLemmas
pub mod RunLemmas
pub mod BytesLemmas
pub mod ToEndLemmas
pub mod AnswerLemmas

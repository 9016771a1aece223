pub mod FineRows
pub mod FineSteps
pub mod FineTerms
pub mod ListLemmas
pub mod ReadLemmas
pub mod WordLemmas

pub mod OutlineLemmas
pub mod ZipLemmas

pub mod NewNumberLemmas
pub mod ZipLemmas

pub mod ActsLemmas
pub mod CleanLemmas
pub mod ReachedLemmas
pub mod ThreadLemmas
pub mod ZipLemmas

pub mod Memory
pub mod CopyLemmas

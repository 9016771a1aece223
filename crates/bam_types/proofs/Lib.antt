pub mod CalleeLemmas
pub mod PoolLemmas

pub mod AtomPlaces
pub mod Callers
pub mod TermFolds

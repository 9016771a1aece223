pub mod LineRegisters
pub mod NewNumber
pub mod Renamed
pub mod Allocated

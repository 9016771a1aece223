pub mod CodeAt
pub mod CodeOf
pub mod Law
pub mod Compiled
pub mod CompiledLaw
pub mod Passes

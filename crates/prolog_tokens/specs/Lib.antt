pub mod Layout
pub mod Opening
pub mod Scan
pub mod Digits
pub mod Shapes

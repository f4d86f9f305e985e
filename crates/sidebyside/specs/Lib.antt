pub mod Kept
pub mod Compare
pub mod Turned
pub mod Inner

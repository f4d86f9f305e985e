pub mod Counts
pub mod Reads
pub mod Speech
pub mod Inner

pub mod Record
pub mod Fold
pub mod Text
pub mod Play
pub mod Inner

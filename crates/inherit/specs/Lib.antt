pub mod Asked
pub mod Copies
pub mod Last
pub mod Branch
pub mod Compute
pub mod Inner
pub mod Spare
pub mod Said

pub mod Identity
pub mod Entry
pub mod List
pub mod Answer
pub mod Look
pub mod Good
pub mod Spare
pub mod Inner

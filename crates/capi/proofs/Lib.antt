pub mod Together
pub mod Determined

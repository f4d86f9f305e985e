pub mod Tells
pub mod Determined

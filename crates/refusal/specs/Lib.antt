pub mod Numbers
pub mod Faults

pub mod Order
pub mod Bytes
pub mod Absent

pub mod Held
pub mod Open
pub mod Walk
pub mod Said
pub mod Inner

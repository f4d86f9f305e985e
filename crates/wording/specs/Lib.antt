pub mod Grammar
pub mod Reader
pub mod Stored
pub mod Meaning
pub mod Translation
pub mod Inner

pub mod Token
pub mod Kind
pub mod Table
pub mod Meaning
pub mod Tree
pub mod Inner

-- What only private functions' contracts cite: no public promise rests on it.
pub mod Tokens
pub mod Walk
pub mod Leaf
pub mod Rows

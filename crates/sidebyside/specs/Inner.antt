-- What only private functions' contracts cite: no public promise rests on it.
pub mod Search
pub mod Table
pub mod Walk
pub mod Write
pub mod Sides

-- What only private functions' contracts cite: no public promise rests on it.
pub mod Decide
pub mod Seek
pub mod Still

-- What only private functions' contracts cite: no public promise rests on it.
pub mod Passing
pub mod Still
pub mod Rules
pub mod Emit
pub mod Plan
pub mod Source
pub mod Ending

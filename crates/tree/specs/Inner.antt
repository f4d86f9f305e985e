-- What only private functions' contracts cite: no public promise rests on it.
pub mod Faults
pub mod Asking
pub mod Heads
pub mod Else
pub mod Tags
pub mod Puts

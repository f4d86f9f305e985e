-- What only private functions' contracts cite: no public promise rests on it.
pub mod Laying

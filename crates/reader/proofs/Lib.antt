pub mod Ways
pub mod Begun
pub mod Phrases
pub mod Ranks
pub mod Repeats
pub mod Whole
pub mod Exact

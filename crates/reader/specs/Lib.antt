pub mod Faults
pub mod Ranks
pub mod Steps
pub mod Reading

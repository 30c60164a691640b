pub mod Acts
pub mod Judging
pub mod Laws
pub mod Notes
pub mod Occurrences

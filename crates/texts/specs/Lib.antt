pub mod Bools
pub mod Laws
pub mod Outcome
pub mod Phrases
pub mod Printing
pub mod ScalarLemmas
pub mod Texts
pub mod Writing

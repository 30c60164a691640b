pub mod Vectors
pub mod Writing
pub mod Walking
pub mod Placing
pub mod Gathering
pub mod Laws
pub mod Example

pub mod Cells
pub mod Example
pub mod Laws
pub mod Machine
pub mod Words

pub mod Lifts
pub mod Products
pub mod Running
pub mod Segments

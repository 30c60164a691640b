pub mod Boxes
pub mod Planned
pub mod Filling
pub mod Holding

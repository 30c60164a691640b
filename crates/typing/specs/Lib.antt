pub mod Faults
pub mod Codes
pub mod Nodes
pub mod Holding
pub mod Elements

pub mod Sums
pub mod Faithful
pub mod Shapes
pub mod Writing
pub mod Gathering
pub mod Walking
pub mod Placing
pub mod Rooms

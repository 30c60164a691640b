pub mod Tree
pub mod Grammar
pub mod Law

pub mod Types
pub mod Entries
pub mod Table
pub mod TypeRefs

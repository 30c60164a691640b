pub mod Tests
pub mod Trees
pub mod Tokens
pub mod Texts
pub mod Rows

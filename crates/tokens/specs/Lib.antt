pub mod Kinds
pub mod Bytes
pub mod Words
pub mod Numbers
pub mod Signs
pub mod Faults
pub mod Lexemes
pub mod Cutting

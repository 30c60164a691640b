pub mod Stages
pub mod One

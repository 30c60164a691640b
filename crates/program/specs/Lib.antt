pub mod Faults
pub mod Loading
pub mod Stages
pub mod Answers
pub mod Spelling

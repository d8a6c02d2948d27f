pub mod Rows
pub mod Kept
pub mod Stages
pub mod Terms
pub mod Patterns

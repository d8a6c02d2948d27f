pub mod Sequences
pub mod Types
pub mod Predicates
pub mod Actions
pub mod Starts
pub mod Goals
pub mod Apart

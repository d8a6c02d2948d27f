pub mod Types
pub mod Declarations
pub mod Functions
pub mod Actions
pub mod Problems

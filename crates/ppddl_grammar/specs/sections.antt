pub mod Types
pub mod Declarations
pub mod Actions
pub mod Problems
pub mod Laws

pub mod Walks
pub mod Lower
pub mod Types
pub mod Predicates
pub mod Objects
pub mod Wider
pub mod Actions
pub mod Problems

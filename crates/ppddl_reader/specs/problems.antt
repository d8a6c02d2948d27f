pub mod Problems
pub mod Examples

pub mod Folds
pub mod Domains
pub mod Problems

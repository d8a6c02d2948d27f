pub mod Folds
pub mod Domains
pub mod Problems
pub mod Laws

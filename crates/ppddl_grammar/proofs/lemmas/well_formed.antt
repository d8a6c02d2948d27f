pub mod Parts
pub mod Domains
pub mod Problems
pub mod Texts

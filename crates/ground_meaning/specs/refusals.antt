pub mod Atoms
pub mod Starts
pub mod Problem
pub mod Codes
pub mod Limits
pub mod Examples
pub mod Laws

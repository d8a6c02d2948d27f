pub mod Endings
pub mod Problems
pub mod Sources
pub mod Laws

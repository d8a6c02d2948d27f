pub mod Lying
pub mod Taken

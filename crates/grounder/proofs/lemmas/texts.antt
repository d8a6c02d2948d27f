pub mod Sorting
pub mod Adding
pub mod Hashed
pub mod Wanting

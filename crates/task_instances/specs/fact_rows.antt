pub mod Adding
pub mod Marks
pub mod Rows
pub mod Laws

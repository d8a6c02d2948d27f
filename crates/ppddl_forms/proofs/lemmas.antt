pub mod names
pub mod items
pub mod objects

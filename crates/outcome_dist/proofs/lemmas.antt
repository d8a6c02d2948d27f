pub mod lists
pub mod conditions

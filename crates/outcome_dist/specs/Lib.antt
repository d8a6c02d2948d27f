pub mod Draws
pub mod Answers
pub mod lists
pub mod conditions

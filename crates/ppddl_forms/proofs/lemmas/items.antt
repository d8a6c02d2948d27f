pub mod Steps
pub mod ItemSteps
pub mod Indexed

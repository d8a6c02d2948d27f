mod Allowed
mod Calls
mod Turns
mod Filling
mod Ending
pub mod lemmas

pub mod Steps
pub mod TwoStates

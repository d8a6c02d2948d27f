pub mod Ended
pub mod Passes
pub mod Stepping

pub mod Few
pub mod Walking
pub mod Bounding

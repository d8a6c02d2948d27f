pub mod Draws
pub mod Walked
pub mod Bounded

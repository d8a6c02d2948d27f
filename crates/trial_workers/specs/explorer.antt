pub mod Found
pub mod Explored
pub mod Exploring

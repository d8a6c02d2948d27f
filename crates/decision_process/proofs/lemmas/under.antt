pub mod Values
pub mod Means
pub mod Carried

pub mod Means
pub mod Sums

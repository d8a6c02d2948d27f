pub mod Needed
pub mod Quantified

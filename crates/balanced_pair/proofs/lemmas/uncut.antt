pub mod Uncut
pub mod Means

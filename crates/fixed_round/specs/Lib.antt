pub mod Examples
pub mod Laws
pub mod Means
pub mod Words

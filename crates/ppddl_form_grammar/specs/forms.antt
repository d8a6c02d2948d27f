pub mod Words
pub mod Terms
pub mod Lists
pub mod Conditions
pub mod Effects
pub mod Laws
pub mod Examples

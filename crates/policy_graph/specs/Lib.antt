pub mod Reached
pub mod Graph
pub mod Text
pub mod Laws
pub mod Search
pub mod Claims

pub mod Enough
pub mod Placed
pub mod Repeats
pub mod Laws

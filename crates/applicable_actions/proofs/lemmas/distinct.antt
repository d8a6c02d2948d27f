pub mod Members
pub mod Repeats
pub mod Placing
pub mod Opens
pub mod Kept
pub mod Enough

pub mod Lists
pub mod Widths
pub mod Prices
pub mod Texts
pub mod Moves
pub mod Limits
pub mod Grounded

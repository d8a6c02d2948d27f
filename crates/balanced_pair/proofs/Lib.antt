pub mod Scaled
pub mod Halves
pub mod Rows
pub mod Plain
pub mod Order
pub mod lemmas
pub mod Coin

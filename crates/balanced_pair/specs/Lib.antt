pub mod Pairs
pub mod Laws
pub mod partial_rows
pub mod layers
pub mod uncut
pub mod Coin

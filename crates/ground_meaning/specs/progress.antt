pub mod Width
pub mod Laws
pub mod Coin

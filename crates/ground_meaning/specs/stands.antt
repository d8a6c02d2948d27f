pub mod Stands
pub mod Coin
pub mod Laws

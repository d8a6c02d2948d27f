pub mod Lists
pub mod Texts
pub mod Standing
pub mod Same
pub mod Coin

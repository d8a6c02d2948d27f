pub mod Numbers
pub mod Core
pub mod Events
pub mod Sound
pub mod Shown
pub mod Laws
pub mod Coin
pub mod ends

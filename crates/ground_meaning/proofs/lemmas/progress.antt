pub mod Sums
pub mod Horizon
pub mod Attained
pub mod Progress
pub mod Means
pub mod Tasks
pub mod Problems
pub mod Coin

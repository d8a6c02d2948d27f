pub mod Parts
pub mod Terms
pub mod Lists
pub mod Conditions
pub mod Shares
pub mod Costs
pub mod Effects

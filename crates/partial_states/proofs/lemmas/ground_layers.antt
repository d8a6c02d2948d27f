pub mod Members
pub mod Truths
pub mod Shares
pub mod Projected
pub mod LayerRows

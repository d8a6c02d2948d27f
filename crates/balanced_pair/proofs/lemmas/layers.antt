pub mod Shares
pub mod Groups

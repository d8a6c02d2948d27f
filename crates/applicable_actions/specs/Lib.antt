pub mod LeftOut
pub mod Masks
pub mod Runs
pub mod Index
pub mod Codes
pub mod distinct

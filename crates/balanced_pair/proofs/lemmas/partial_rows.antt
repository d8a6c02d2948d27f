pub mod Best
pub mod Supported

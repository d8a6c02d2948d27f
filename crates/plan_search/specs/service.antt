pub mod Served
pub mod Beside

pub mod Naming
pub mod Keying
pub mod Spelling
pub mod Mapping
pub mod Giving

pub mod Interned
pub mod Turns

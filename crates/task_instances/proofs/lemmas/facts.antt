pub mod Naming
pub mod Facts
pub mod Known
pub mod ByNumber
pub mod Made
pub mod Mass
pub mod Ways

pub mod Options
pub mod Parsing
pub mod Ranges
pub mod Found
pub mod Requests
pub mod Values
pub mod lemmas

pub mod Scopes
pub mod Keys
pub mod Maps
pub mod Values

pub mod Sequences
pub mod Values
pub mod Items

pub mod Types
pub mod Objects
pub mod Heads
pub mod Chances
pub mod Items

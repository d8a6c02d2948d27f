pub mod Parts
pub mod PriceBounds
pub mod Lowered
pub mod Passes
pub mod Greatest
pub mod ConsistentUnder
pub mod Consistency

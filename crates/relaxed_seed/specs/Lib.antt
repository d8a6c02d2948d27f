pub mod Prices
pub mod Potential
pub mod Consistent
pub mod Laws
pub mod Examples
pub mod Parts
pub mod Lowering

pub mod Rules
pub mod Seeded
pub mod Costs
pub mod Means

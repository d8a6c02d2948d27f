pub mod terms
pub mod sizes

pub mod solver
pub mod service

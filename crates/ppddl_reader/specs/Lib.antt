pub mod sections
pub mod domains
pub mod problems
pub mod tasks

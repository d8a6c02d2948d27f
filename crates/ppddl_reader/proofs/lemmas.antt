pub mod sections
pub mod tasks

pub mod Spelled
pub mod Looked
pub mod Runs
pub mod Turned
pub mod Grammar

pub mod LineTask
pub mod Laws

pub mod Lines
pub mod Queries
pub mod Laws
pub mod Replies
pub mod Serving
pub mod Parts
pub mod Examples

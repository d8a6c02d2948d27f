pub mod Spelled
pub mod Tokens
pub mod Closed
pub mod Results
pub mod Steps
pub mod Taken

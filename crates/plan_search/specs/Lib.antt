pub mod Found
pub mod Answers
pub mod Under
pub mod Serving
pub mod Solving
pub mod Telling
pub mod solver
pub mod service

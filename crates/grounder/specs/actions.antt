pub mod Answers
pub mod Forming
pub mod Growing
pub mod Repeating

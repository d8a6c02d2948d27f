pub mod Growing
pub mod Answers

pub mod Answered
pub mod Choices
pub mod Distinct
pub mod Growth
pub mod Insertion
pub mod Insides
pub mod ListedLevels

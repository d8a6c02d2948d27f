pub mod Truth
pub mod Names
pub mod Packed
pub mod Edits
pub mod Marks
pub mod ActingParts
pub mod Outcomes
pub mod Ranges

pub mod Adding
pub mod Telling
pub mod Marking
pub mod RowSteps

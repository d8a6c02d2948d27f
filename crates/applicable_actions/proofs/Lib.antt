pub mod Bits
pub mod WordTests
pub mod Adding
pub mod RunSteps
pub mod Codes
pub mod Marks
pub mod Building
pub mod lemmas

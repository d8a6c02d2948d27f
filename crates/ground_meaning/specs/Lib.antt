pub mod choices
pub mod stands
pub mod refusals
pub mod progress

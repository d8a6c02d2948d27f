pub mod Usage
pub mod Values
pub mod Sentences
pub mod Reasons
pub mod Shown
pub mod Examples

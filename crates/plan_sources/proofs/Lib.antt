pub mod Taking
pub mod Grounding
pub mod Stopping
pub mod Refusing
pub mod Standing
pub mod Telling

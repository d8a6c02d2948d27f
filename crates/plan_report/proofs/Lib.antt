pub mod Telling
pub mod Joining
pub mod Known
pub mod lemmas

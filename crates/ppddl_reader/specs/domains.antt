pub mod Actions
pub mod Domains

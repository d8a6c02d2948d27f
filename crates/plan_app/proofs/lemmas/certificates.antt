pub mod Carried
pub mod Named

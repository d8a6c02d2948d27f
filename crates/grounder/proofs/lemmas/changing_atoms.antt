pub mod Gathering
pub mod Instances

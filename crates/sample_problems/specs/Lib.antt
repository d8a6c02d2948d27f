pub mod SureCoin
pub mod Tire

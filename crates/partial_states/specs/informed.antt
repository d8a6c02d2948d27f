pub mod Informed
pub mod Laws

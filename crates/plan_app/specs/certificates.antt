pub mod Carried
pub mod Named
pub mod Laws

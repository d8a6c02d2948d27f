pub mod Homomorphism
pub mod Counterparts
pub mod Laws
pub mod Die

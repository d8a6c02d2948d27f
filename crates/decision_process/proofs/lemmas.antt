pub mod homomorphism
pub mod sweeps
pub mod under

pub mod GroundRows
pub mod Laws

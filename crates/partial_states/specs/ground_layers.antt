pub mod GroundLayers
pub mod LayerRows
pub mod Laws

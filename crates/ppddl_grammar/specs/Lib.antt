pub mod fits
pub mod sections
pub mod definitions
pub mod texts
pub mod well_formed

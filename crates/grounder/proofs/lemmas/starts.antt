pub mod Factors
pub mod Dens
pub mod Drawing
pub mod Walking
pub mod Answered

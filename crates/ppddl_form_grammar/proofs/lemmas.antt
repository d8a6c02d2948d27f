pub mod forms
pub mod lists
pub mod fits

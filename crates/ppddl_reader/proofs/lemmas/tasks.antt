pub mod Refusals
pub mod OfTexts

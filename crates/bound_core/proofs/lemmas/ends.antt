pub mod Totals
pub mod Reading
pub mod Adding

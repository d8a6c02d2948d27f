pub mod Refusing
pub mod Limiting
pub mod Totals
pub mod Ending
pub mod Standing
pub mod Counting
pub mod Costing
pub mod lemmas

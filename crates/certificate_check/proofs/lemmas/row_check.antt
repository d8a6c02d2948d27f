pub mod Open
pub mod Rows
pub mod Sides
pub mod Totals

pub mod Order
pub mod RowsKept
pub mod Kept
pub mod Tables
pub mod Certificates

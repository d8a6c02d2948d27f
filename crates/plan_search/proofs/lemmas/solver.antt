pub mod Rows
pub mod Reading
pub mod Listing
pub mod Ending
pub mod Answering
pub mod Telling

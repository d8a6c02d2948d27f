pub mod Above
pub mod Carrying
pub mod Firsts
pub mod Rows
pub mod Runs
pub mod Steps
pub mod Sums
pub mod Turns

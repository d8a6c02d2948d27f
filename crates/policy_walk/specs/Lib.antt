pub mod Policies
pub mod Tables
pub mod Walks
pub mod Going
pub mod Buffers
pub mod Runs
pub mod Laws
pub mod Reports

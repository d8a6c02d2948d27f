pub mod Sending
pub mod Joined
pub mod Kept

pub mod reading
pub mod grounding
pub mod Joined

pub mod Opened
pub mod Rounds
pub mod Ended
pub mod Solved
pub mod Told
pub mod Laws

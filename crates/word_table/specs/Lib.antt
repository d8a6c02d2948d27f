pub mod Seen
pub mod Made
pub mod Plays
pub mod Closed
pub mod layout
pub mod view
pub mod rule

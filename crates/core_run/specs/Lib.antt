pub mod Run
pub mod Merged
pub mod Boards
pub mod Decided
pub mod Stepped
pub mod Began

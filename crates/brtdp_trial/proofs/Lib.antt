pub mod Spreads
pub mod Walking
pub mod Unplaced
pub mod Listing
pub mod Answered

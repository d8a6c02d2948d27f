pub mod Counted
pub mod Typed
pub mod Flags
pub mod Valued
pub mod Laws

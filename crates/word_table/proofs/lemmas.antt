pub mod layout
pub mod view
pub mod rule

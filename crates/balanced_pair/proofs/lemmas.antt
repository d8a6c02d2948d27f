pub mod uncut
pub mod partial_rows
pub mod layers

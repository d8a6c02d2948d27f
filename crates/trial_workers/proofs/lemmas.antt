pub mod explorer
pub mod calls

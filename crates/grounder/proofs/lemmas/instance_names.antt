pub mod Binding
pub mod Spelled

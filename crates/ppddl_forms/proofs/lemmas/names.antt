pub mod Finding
pub mod Under
pub mod Variables
pub mod Once

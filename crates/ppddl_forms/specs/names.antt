pub mod Declarations
pub mod Sight
pub mod Places
pub mod Laws
pub mod Examples

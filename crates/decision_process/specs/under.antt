pub mod Under
pub mod Laws

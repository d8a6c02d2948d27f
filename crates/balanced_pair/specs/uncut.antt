pub mod Uncut
pub mod Laws

pub mod Words
pub mod Rule
pub mod Told
pub mod Made
pub mod Laws

pub mod Objects
pub mod Items
pub mod Laws
pub mod Examples

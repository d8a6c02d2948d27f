pub mod PartialRows
pub mod Laws

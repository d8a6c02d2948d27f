pub mod Edits
pub mod Marks
pub mod Acting
pub mod Steps
pub mod Atoms
pub mod Names
pub mod Hash
pub mod Laws

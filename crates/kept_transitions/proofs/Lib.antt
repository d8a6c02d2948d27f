pub mod Growth
pub mod IdleChoices
pub mod Still
pub mod OfKinds
pub mod Unpacked
pub mod Rows
pub mod Putting

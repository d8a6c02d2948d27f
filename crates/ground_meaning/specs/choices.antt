pub mod Rising
pub mod Numbering
pub mod Same
pub mod Joint
pub mod Limits
pub mod Change
pub mod Laws
pub mod Examples

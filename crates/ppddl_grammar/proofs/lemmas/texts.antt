pub mod Forms
pub mod Tokens
pub mod Definitions
pub mod Texts

pub mod Alike
pub mod Forms

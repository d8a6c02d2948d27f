pub mod Alike
pub mod MoreVariables
pub mod Forms

pub mod RowSteps
pub mod BindSteps
pub mod Alike
pub mod Conjoined
pub mod Staging
pub mod Valuing
pub mod Placing
pub mod Testing

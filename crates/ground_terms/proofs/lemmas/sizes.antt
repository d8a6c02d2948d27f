pub mod Stopping
pub mod OfTypes
pub mod Flagging
pub mod ManyWays
pub mod SizeSteps
pub mod DenSteps
pub mod CostSteps
pub mod Forgetting

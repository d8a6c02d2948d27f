pub mod Conditions
pub mod Sets
pub mod MergeSteps
pub mod Piling
pub mod MergedMaps

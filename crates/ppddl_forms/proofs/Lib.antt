pub mod Steps
pub mod Seen
pub mod Listing
pub mod ConditionSteps
pub mod TermSteps
pub mod Sums
pub mod EffectSteps
pub mod lemmas

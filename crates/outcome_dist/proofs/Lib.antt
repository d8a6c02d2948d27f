pub mod Walks
pub mod EffectForms
pub mod Gathering
pub mod lemmas

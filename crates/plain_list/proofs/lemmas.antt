pub mod weighted

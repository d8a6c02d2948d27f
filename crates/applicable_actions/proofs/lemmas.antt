pub mod distinct

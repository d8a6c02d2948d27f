pub mod means

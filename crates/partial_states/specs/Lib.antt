pub mod Known
pub mod Steps
pub mod Laws
pub mod ground_rows
pub mod ground_layers
pub mod informed
pub mod Coins

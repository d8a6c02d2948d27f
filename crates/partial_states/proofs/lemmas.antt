pub mod ground_rows
pub mod ground_layers
pub mod informed

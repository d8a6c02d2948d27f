pub mod fact_rows
pub mod known_conditions
pub mod facts
pub mod quantified_atoms
pub mod kept_rows
pub mod variables

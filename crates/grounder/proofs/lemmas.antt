pub mod limits
pub mod costs
pub mod instance_names
pub mod texts
pub mod changing_atoms
pub mod starts
pub mod actions
pub mod outset

pub mod GroundSteps

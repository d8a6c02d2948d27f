pub mod KnowSteps

pub mod Columns
pub mod BoardSteps
pub mod BoardFields

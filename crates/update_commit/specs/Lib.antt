pub mod CoreStates
pub mod Receipts
pub mod CoreFields

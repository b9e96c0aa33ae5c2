pub mod EventEntries
pub mod PassStates
pub mod PassFields

pub mod HeardReads
pub mod Policies
pub mod Searches
pub mod HeldFields
pub mod HeldCycles
pub mod Private

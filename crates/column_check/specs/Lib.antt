pub mod Searches
pub mod Private

pub mod EntryLemmas
pub mod TurnLemmas
pub mod PassLists
pub mod Joins

pub mod WriteLemmas
pub mod EncodingLemmas
pub mod EntryLemmas
pub mod FaultLemmas
pub mod ViewLemmas
pub mod TapeReadLemmas

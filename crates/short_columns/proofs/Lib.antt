pub mod ListingLemmas
pub mod ByteLemmas
pub mod WriteLemmas
pub mod ReadLemmas
mod ShortExamples

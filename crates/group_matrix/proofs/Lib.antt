pub mod RowLemmas
pub mod GroupLemmas
mod GroupExamples

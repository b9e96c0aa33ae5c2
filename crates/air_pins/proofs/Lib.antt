pub mod EtherWords
pub mod SplitLemmas
mod CallExamples
mod SplitExamples

pub mod FlatLemmas
pub mod EntryLemmas
pub mod BoardLemmas
pub mod StepExamples

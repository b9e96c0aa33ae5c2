pub mod NamedLemmas
pub mod MemoryLemmas
pub mod CallLemmas
pub mod ReadFileLemmas
pub mod ReadOnLemmas
pub mod EarLemmas
pub mod WrittenLemmas
pub mod RecordLemmas
mod DeviceExamples

pub mod CommitLemmas
pub mod CycleLemmas
pub mod SendLemmas
pub mod AiringLemmas
pub mod CrewLemmas
pub mod LookLemmas
pub mod RunLemmas
pub mod StageLemmas
pub mod EndLemmas
pub mod SentLemmas
pub mod SightLemmas
pub mod CastLemmas
pub mod HeardRunLemmas
mod RunExamples
mod TruthExamples

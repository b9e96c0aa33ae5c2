pub mod BucketLemmas
pub mod DrillLemmas
pub mod ReportLemmas
pub mod DeckLemmas
pub mod PlaceLemmas
mod BucketExamples
mod DeckExamples
mod DeclarationExamples
mod DrillExamples
mod LegalExamples
mod MonitorExamples
mod TapeExamples
mod WithinExamples

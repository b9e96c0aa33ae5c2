mod StepExamples
mod FindingExamples
mod WholeExamples
pub mod CountLemmas
pub mod WriteLemmas
pub mod BetweenLemmas
pub mod GroupClashLemmas
pub mod LastLemmas
pub mod SoughtLemmas
pub mod AloneLemmas
pub mod NextLemmas
pub mod BackwardLemmas
pub mod MarkedLemmas
pub mod GroupReadLemmas
pub mod PassLemmas
pub mod RunLemmas
pub mod ReplayLemmas
pub mod PolicyLemmas
pub mod SpanLemmas
pub mod GrammarLemmas
pub mod FoundLemmas
pub mod FindingLemmas
pub mod RowFindings
pub mod TrueReports
pub mod FindingTexts
pub mod AuditLemmas
pub mod EachFound
pub mod AuditExamples
mod TextExamples
mod LimitExamples

pub mod LineOrder
pub mod RecordRows
pub mod LineRows
pub mod LineCounts
pub mod MadeReports
mod ReportExamples
pub mod RowLemmas
pub mod RowSteps
mod LineLemmas
pub mod RecordLemmas
pub mod ReadLemmas
pub mod LineRuleLemmas
pub mod PlaceLemmas
pub mod ReadingLemmas
mod TextLemmas
mod PrintedReads
pub mod PrintedFields
pub mod PrintedRows
pub mod PrintedReports
pub mod PrintedGrammar
mod LineRanks
mod OneLines
mod RowKinds
pub mod TiedReports
pub mod StandingLines
pub mod KeptLines
pub mod LegalLines
pub mod SameHistories
mod TextExamples
pub mod HistoryRows
mod LineExamples
mod StatusExamples
pub mod SpelledExamples
mod PrintedExamples
mod RuleExamples
mod EndExamples

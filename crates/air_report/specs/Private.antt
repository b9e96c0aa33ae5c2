-- Definitions of private steps: no public contract cites them.
pub mod ReportsOfLines
pub mod RecordAnswers
pub mod LeadingReads
pub mod ReportFields
pub mod BegunRows

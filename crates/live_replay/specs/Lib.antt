pub mod Findings
pub mod Audits
pub mod FindingLaws
pub mod ReportFindings
pub mod Private
pub mod FindingTexts
pub mod TrueAudits
pub mod AuditAnswers

pub mod FaultLemmas
pub mod ReadLemmas
pub mod ReplayLemmas
pub mod FarLemmas
pub mod AuditLemmas
mod LineExamples
mod TooMuchExamples

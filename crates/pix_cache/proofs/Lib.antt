pub mod NodeLemmas
pub mod StoreLemmas
pub mod SomeLemmas
pub mod AgreeLemmas
pub mod CacheLemmas
pub mod OrderLemmas
pub mod KeepLemmas
pub mod FieldLemmas
pub mod OtherLemmas
pub mod AnswerLemmas
mod AnswerExamples

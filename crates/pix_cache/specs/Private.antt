-- Definitions for private steps only: no public contract cites them.
pub mod KeepAnswers
pub mod StoreFields
pub mod TreeFields
pub mod Trees

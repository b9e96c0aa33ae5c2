-- Definitions that private steps alone speak of: no public contract cites them.
pub mod RunSteps

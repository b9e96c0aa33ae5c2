-- Definitions that private steps alone speak of: no public contract cites them.
pub mod Endings
pub mod JudgedPieces
pub mod Sleeping
pub mod TogetherSteps
pub mod PlaceSteps
pub mod HistorySteps

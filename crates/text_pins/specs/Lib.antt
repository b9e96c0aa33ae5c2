pub mod SmallBuckets
pub mod SmallWrites
pub mod SmallReports
pub mod DeckAnswers

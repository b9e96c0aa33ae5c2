pub mod SmallDeck
pub mod ReportAnswers
pub mod SmallReports

pub mod SmallDecks
pub mod SmallReportsAndTapes
pub mod CalmDevices

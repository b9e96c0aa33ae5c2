pub mod Commits
pub mod SmallBoards
pub mod SmallHistories
pub mod SmallReads
pub mod SmallCores
pub mod SmallColumns

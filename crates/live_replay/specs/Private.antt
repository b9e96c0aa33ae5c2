-- Definitions that private steps alone speak of: no public contract cites them.
pub mod Writes
pub mod Alone
pub mod Runs
pub mod Replays
pub mod NamedClashes
pub mod Groups
pub mod Lines

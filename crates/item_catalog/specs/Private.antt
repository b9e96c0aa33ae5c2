-- Definitions for private steps only: no public contract cites them.
pub mod ListKinds
pub mod Drafts
pub mod DraftFields
pub mod ReadEnds
pub mod ScriptFields
pub mod ReplanLists
pub mod WriteParts

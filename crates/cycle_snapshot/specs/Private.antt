-- Definitions for private steps only: no public contract cites them.
pub mod NewsStates
pub mod FrameFields
pub mod BoardRuns

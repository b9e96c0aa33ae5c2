-- Definitions for private steps only: no public contract cites them.
pub mod LesserOfTwo

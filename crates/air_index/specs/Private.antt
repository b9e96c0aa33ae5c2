-- Definitions of private steps alone: no public contract cites them.
pub mod Beaming

-- Definitions that private steps alone speak of: no public contract cites them.
pub mod AttemptFields
pub mod Attempts
pub mod Offers
pub mod SlotKinds
pub mod Turns

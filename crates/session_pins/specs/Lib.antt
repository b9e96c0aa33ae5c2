pub mod SmallDecks
pub mod SmallBuckets
pub mod SmallReceivers
pub mod SmallListeners
pub mod AgedReceivers
pub mod EditionReceivers
pub mod Refusals
pub mod KeptCopies

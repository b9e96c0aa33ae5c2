pub mod PushWords
pub mod KeptPushes
pub mod HeardPositions
pub mod HeardSoFar
pub mod HeardPlaces
pub mod EtherFields
pub mod LentBuckets

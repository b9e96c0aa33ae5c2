pub mod TapeMasts
pub mod AirFaults
pub mod BoardBuckets
pub mod TapeSizes
pub mod AiredBytes
pub mod DeckGroups

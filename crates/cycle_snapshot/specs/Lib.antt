pub mod Batches
pub mod Beginnings
pub mod BookRule
pub mod SideRule
pub mod SnapshotStates
pub mod PublisherFields
pub mod MonitorFields
pub mod Private

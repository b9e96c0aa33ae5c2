pub mod SmallBatches
pub mod SmallGroups
pub mod HotItem
pub mod CalmMasts

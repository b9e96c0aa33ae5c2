pub mod SmallEthers
pub mod SmallCaches
pub mod SmallPrograms
pub mod SmallAirings
pub mod SmallSplits
pub mod SmallGroups
pub mod SmallFiles

pub mod RangeLemmas
pub mod SendLemmas
pub mod StartedBoards
pub mod TapeLengths
pub mod GrowLemmas
pub mod AiredLemmas
pub mod PlannedTapes
pub mod RunLoops
pub mod TapeLemmas
pub mod TapeSizes
mod LengthExamples

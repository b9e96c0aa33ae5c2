pub mod PartLemmas
pub mod PieceLemmas
pub mod CycleLemmas
mod TapePieceLemmas
mod SinkLemmas
mod DrillSlots
mod DrillTapes
mod CountBounds
mod DrillCounts
mod DrillExamples
mod NumberExamples
mod LongestExamples
mod HeardLemmas
mod OneGroupLemmas
mod OneGroupExamples
pub mod BeamPieces

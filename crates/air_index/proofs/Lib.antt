pub mod IndexLemmas
pub mod ViewLemmas
pub mod RecordLemmas
pub mod SearchLemmas
pub mod LawLemmas
pub mod SizeLemmas
pub mod PositionLemmas
pub mod MarkLemmas
pub mod BeamLemmas
pub mod PieceLemmas
pub mod AheadLemmas
pub mod BackLemmas
pub mod EntryLemmas
pub mod LengthLemmas
pub mod WriteLemmas
pub mod DataLemmas
pub mod TapeLemmas
pub mod ReadableLemmas
pub mod CycleLemmas
pub mod TapeSizeLemmas
pub mod BoundLemmas
pub mod NearLemmas
pub mod FollowLemmas
pub mod FitLemmas
pub mod StandLemmas
pub mod SoonLemmas
pub mod RightLemmas
pub mod CountLemmas
pub mod OnAirExamples
mod StepExamples
mod SeekExamples
mod PlaceExamples
mod LastCycleExamples

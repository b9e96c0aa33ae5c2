pub mod ListenerLemmas
pub mod PieceLemmas
pub mod PixLemmas
pub mod RangeLemmas
pub mod AgedRangeLemmas
pub mod SessionLemmas
pub mod SizeLemmas
pub mod TapeCauses
mod SettleExamples
pub mod BeamLemmas
pub mod LateLemmas
pub mod CopyLemmas

pub mod CutSteps
pub mod RankLemmas
pub mod PlaceSteps
pub mod CutLemmas
pub mod EditionSteps
pub mod Numbers
pub mod Copies
pub mod ChunkLemmas
pub mod HomeLemmas
pub mod ProgramLemmas
mod LengthExamples
mod EditionExamples

pub mod SearchLemmas
pub mod LeastLemmas
pub mod ArrayLemmas
pub mod ReachedLemmas
pub mod HeldLemmas
pub mod PolicyLemmas
pub mod CycleExamples
pub mod PolicyExamples

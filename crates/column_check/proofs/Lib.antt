pub mod NewLemmas
pub mod LeastLemmas
pub mod BothLemmas

pub mod PolicyLemmas
pub mod NewLemmas

pub mod PrefixLemmas
pub mod AddLemmas
pub mod BatchLemmas
pub mod FrameLemmas
pub mod SightLemmas

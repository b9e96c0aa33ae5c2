pub mod PlaceLemmas
pub mod GreaterLemmas
pub mod StampLemmas
pub mod FirstLemmas
pub mod GroupLemmas
pub mod KernelExamples

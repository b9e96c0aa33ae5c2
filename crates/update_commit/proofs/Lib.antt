pub mod EventLemmas
pub mod StepLemmas

pub mod PinLemmas
pub mod BeamPins

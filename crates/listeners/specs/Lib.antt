pub mod Listeners
pub mod Hearings
pub mod PlaceListeners
pub mod Private
pub mod AiredCycles

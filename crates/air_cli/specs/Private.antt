-- Definitions of private steps: no public contract cites them.
pub mod BeforeDelivery
pub mod Endings
pub mod Airing
pub mod OutputPieces
pub mod Pieces
pub mod EarSteps
pub mod GivenTexts

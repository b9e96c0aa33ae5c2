-- Definitions for private steps only: no public contract cites them.
pub mod SeatSteps
pub mod SeatViews
pub mod TurnstileRule

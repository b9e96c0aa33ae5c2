-- Definitions of private steps: no public contract cites them.
pub mod Airings
pub mod CycleSteps
pub mod Crews
pub mod StageSteps
pub mod SightSteps
pub mod CastSteps

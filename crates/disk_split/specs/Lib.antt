pub mod Splits
pub mod SplitAnswers
pub mod Private
pub mod Rests
pub mod Numbers

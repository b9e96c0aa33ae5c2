pub mod RestLemmas
pub mod RowSteps
pub mod TableSteps
pub mod Orders
pub mod CostSteps
pub mod RestSteps
pub mod BestSteps
pub mod LeastMinors
pub mod MinorLemmas
pub mod RateLemmas
pub mod HotLemmas
pub mod DeckLemmas
pub mod CostLemmas
pub mod BestLemmas
pub mod SearchLemmas
pub mod DeckNumbers
mod SplitExamples
